use Rattle.std.proofs.Common.{◌≡◌, ◌∙◌, ap, rules, subst, sym}
use Rattle.std.specs.Prelude.{None}
use Rattle.serde_json.specs.Data.{Data}
use Rattle.serde_json.specs.View.{view}
use Rattle.pb_json.specs.Answers.{both_json}
use Rattle.serde_json.specs.Written.{compact_text}
use Rattle.pb_json.specs.Texts.{IsPlain, most_nested}
use Rattle.pb_json.specs.Prices.{prices_json}
use Rattle.pb_json.specs.Violations.{violation_json}
use Rattle.pb_json.proofs.Plain.{both_are_plain, both_plain_enough, prices_are_plain, violation_is_plain}
use Rattle.pb_report.specs.Found.{price_verdict}
use Rattle.pb_audit.specs.Objects.{both_text}
use Rattle.pb_audit.proofs.objects.both_object.Goals as goal

pub new-requires : goal.new-requires
new-requires c =
    let e = c.args.decided.now.election in
    let w = c.args.decided.now.outcome.marks in
    let p = c.args.prices.now in
    let g = c.args.group.now in
    let prices = view c.in_ok-on_prices.on_prices in
    let group = view c.in_ok-on_group.on_group in
    subst (λ (d : Data). IsPlain most_nested d) (sym c.in_ok-both_json.ensures)
    (both_plain_enough (both_json c.args.all prices group)
    (both_are_plain c.args.all prices group
    (subst (λ (d : Data). IsPlain 4 d) (sym c.in_ok-on_prices.ensures)
    (prices_are_plain p.mode e w c.verdict-verdict.result p.findings None))
    (subst (λ (d : Data). IsPlain 4 d) (sym c.in_ok-on_group.ensures)
    (violation_is_plain c.measure.result e w g.verdict g.findings))))

pub returns : goal.returns
unfolding both_text
returns c =
    let e = c.args.decided.now.election in
    let w = c.args.decided.now.outcome.marks in
    let p = c.args.prices.now in
    let g = c.args.group.now in
    let prices : view c.in_ok-on_prices.on_prices ≡ prices_json p.mode e w (price_verdict p) p.findings None = search rules in
    let group : view c.in_ok-on_group.on_group ≡ violation_json g.violation.measure e w g.verdict g.findings = search rules in
    c.new.ensures
    ∙ ap compact_text (c.in_ok-both_json.ensures
    ∙ ap (λ (d : Data). both_json c.args.all d (view c.in_ok-on_group.on_group)) prices
    ∙ ap (λ (d : Data). both_json c.args.all (prices_json p.mode e w (price_verdict p) p.findings None) d) group)
