use Rattle.std.proofs.Common.{◌∙◌, ap, subst, sym}
use Rattle.serde_json.specs.Data.{Data}
use Rattle.pb_json.specs.Prices.{prices_json}
use Rattle.pb_price.specs.declared.Verdict.{Verdict}
use Rattle.serde_json.specs.Written.{compact_text}
use Rattle.pb_json.specs.Texts.{IsPlain, most_nested}
use Rattle.pb_json.proofs.Plain.{plain_enough, prices_are_plain}
use Rattle.pb_audit.specs.Objects.{price_text}
use Rattle.pb_audit.proofs.objects.price_object.Goals as goal

pub new-requires : goal.new-requires
new-requires c =
    let e = c.args.decided.now.election in
    let w = c.args.decided.now.outcome.marks in
    let p = c.args.prices.now in
    subst (λ (d : Data). IsPlain most_nested d) (sym c.in_ok-object.ensures)
    (plain_enough
    (prices_json p.mode e w c.verdict.result p.findings p.nearest)
    (prices_are_plain p.mode e w c.verdict.result p.findings p.nearest))

pub returns : goal.returns
unfolding price_text
returns c =
    let e = c.args.decided.now.election in
    let w = c.args.decided.now.outcome.marks in
    let p = c.args.prices.now in
    c.new.ensures
    ∙ ap compact_text c.in_ok-object.ensures
    ∙ ap
    (λ (v : Verdict). compact_text (prices_json p.mode e w v p.findings p.nearest))
    c.verdict.ensures
