use Rattle.std.proofs.Common.{◌∙◌, ap, subst, sym}
use Rattle.serde_json.specs.Data.{Data}
use Rattle.pb_certificate.specs.declared.violations.measure.Measure.{Measure}
use Rattle.pb_json.specs.Violations.{violation_json}
use Rattle.serde_json.specs.Written.{compact_text}
use Rattle.pb_json.specs.Texts.{IsPlain, most_nested}
use Rattle.pb_json.proofs.Plain.{violation_is_plain, plain_enough}
use Rattle.pb_audit.specs.Objects.{violation_text}
use Rattle.pb_audit.proofs.objects.violation_object.Goals as goal

pub new-requires : goal.new-requires
new-requires c =
    let e = c.args.decided.now.election in
    let w = c.args.decided.now.outcome.marks in
    subst (λ (d : Data). IsPlain most_nested d) (sym c.in_ok-object.ensures)
    (plain_enough (violation_json c.measure.result e w c.args.group.now.verdict c.args.group.now.findings)
    (violation_is_plain c.measure.result e w c.args.group.now.verdict c.args.group.now.findings))

pub returns : goal.returns
unfolding violation_text
returns c =
    let e = c.args.decided.now.election in
    let w = c.args.decided.now.outcome.marks in
    let g = c.args.group.now in
    c.new.ensures
    ∙ ap compact_text c.in_ok-object.ensures
    ∙ ap (λ (k : Measure). compact_text (violation_json k e w g.verdict g.findings)) c.measure.ensures
