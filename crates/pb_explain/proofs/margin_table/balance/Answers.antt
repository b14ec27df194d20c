use Rattle.std.proofs.Common.{◌≡◌, ◌∙◌, ap, to_z-of_z}
use Rattle.std.specs.Fmt.{signed_decimal}
use Rattle.pb_explain.proofs.MarginTable.{signed_plain}
use Rattle.pb_explain.proofs.margin_table.balance.Goals as goal

pub returns : goal.returns
returns c =
    let text : c.format.result.now ≡ signed_decimal c.args.balance =
    c.format.ensures.text ∙ ap signed_decimal (to_z-of_z c.ranges.balance) in
    (text, rw text (signed_plain c.args.balance c.ranges.balance))
