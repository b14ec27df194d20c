use mir.Syntax.{w128}
use Rattle.std.proofs.Common.{◌≡◌, ◌∙◌, SFits, ap, rules, to_z-of_z}
use Rattle.std.specs.Fmt.{signed_decimal}
use Rattle.std.specs.Prelude.{decimal}
use Rattle.pb_certificate.proofs.OnPrices.Canon.Lines.{IsPlain}
use Rattle.pb_certificate.proofs.OnPrices.Canon.Written.{id-at}
use Rattle.pb_explain.specs.GroupMargins.{missing_of}
use Rattle.pb_explain.specs.ShownGroup.{need_of, share_of}
use Rattle.pb_explain.proofs.GroupMargins.{group_row_written}
use Rattle.pb_explain.proofs.group_margins.add_row.Goals as goal

pub returns-clause-text : goal.returns-clause-text
returns-clause-text c =
    let e = c.args.election.now in
    let x = c.args.group.now in
    let voters : IsPlain (decimal x.voters) = rw (c.amount.ensures.text, c.from.ensures) at c.amount.ensures.plain in
    let most : IsPlain (decimal x.most) = rw c.amount-2.ensures.text at c.amount-2.ensures.plain in
    let need : IsPlain (decimal (need_of e x)) =
    rw (c.amount-3.ensures.text, c.need_of.ensures.value) at c.amount-3.ensures.plain in
    let share : IsPlain (decimal (share_of e x)) =
    rw (c.amount-4.ensures.text, c.share_of.ensures.value) at c.amount-4.ensures.plain in
    let id = id-at e x.project c.requires.sound c.requires.group.0 in
    let fits : SFits w128 c.missing_of.result = search rules in
    let missing_text : c.balance.result.now ≡ signed_decimal (missing_of e x) =
    c.balance.ensures.text ∙ (ap signed_decimal (to_z-of_z fits) ∙ ap signed_decimal c.missing_of.ensures) in
    let missing : IsPlain (signed_decimal (missing_of e x)) = rw missing_text at c.balance.ensures.plain in
    let fields = rw (
      c.as_bytes.ensures.value,
      c.id.ensures,
      c.as_bytes-2.ensures.value,
      c.amount.ensures.text,
      c.from.ensures,
      c.as_bytes-3.ensures.value,
      c.amount-2.ensures.text,
      c.as_bytes-4.ensures.value,
      c.amount-3.ensures.text,
      c.need_of.ensures.value,
      c.as_bytes-5.ensures.value,
      c.amount-4.ensures.text,
      c.share_of.ensures.value,
      c.as_bytes-6.ensures.value,
      missing_text,
    ) at c.in_ok-add_record.ensures.text in
    rw (group_row_written e x id voters most need share missing) at fields
