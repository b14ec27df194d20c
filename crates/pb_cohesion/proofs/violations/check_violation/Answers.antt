use Rattle.std.proofs.Common.{sym, subst}
use Rattle.std.specs.Prelude.{◌≡◌, ◌↔◌}
use Rattle.pb_cohesion.specs.Groups.{Violates}
use Rattle.pb_cohesion.specs.declared.ViolationVerdict.{ViolationVerdict}
use Rattle.pb_cohesion.specs.declared.ViolationVerdict.TheVariants as verdict
use Rattle.pb_cohesion.proofs.Verdicts.{says-violation}
use Rattle.pb_cohesion.proofs.violations.check_violation.Goals as goal

pub returns : goal.returns
returns g c =
    let worth = g.S.Satisfaction.meaning c.args.satisfaction.now c.args.election.now in
    let e = c.args.election.now in
    let w = c.args.outcome.now.marks in
    let s = c.args.violation.now.group in
    let t = c.args.violation.now.demand in
    let first = c.verdict.ensures worth w s t c.violation_findings.ensures.value in
    record {
      first = first;
      violation =
          subst (λ (v : ViolationVerdict). (v ≡ verdict.Violation) ↔ Violates worth e w s t) (sym first)
          (says-violation worth e w s t);
    }
