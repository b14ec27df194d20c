use Rattle.std.proofs.Common.{subst, sym}
use Rattle.std.specs.Prelude.{IfSome}
use Rattle.pb_cohesion.specs.declared.ViolationFindings.{ViolationFindings}
use Rattle.pb_election.specs.Instance.{Instance, IsProject, IsSet, projects}
use Rattle.pb_cohesion.specs.Failed.{ViolationNamesProject}
use Rattle.pb_reply.proofs.Culprits.{violation_names_projects}
use Rattle.pb_report.proofs.Told.{missing_names_projects}
use Rattle.pb_report.proofs.group.found_of_group.Goals as goal

pub returns-clause-told : goal.returns-clause-told
returns-clause-told c =
    let e = c.election-election.result.now in
    let s = c.args.violation.group in
    let t = c.args.violation.demand in
    let set = subst (λ (i : Instance). IsSet 1 (projects i) t) (sym c.election-election.ensures) c.requires.demand in
    let is = c.violation_findings-findings.ensures.value in
    record {
      cost = c.violation_findings-findings.ensures.small;
      project =
          subst (λ (i : Instance). IfSome c.violation_findings-findings.result.unapproved.first (λ q. IsProject i q.1))
          c.election-election.ensures
          (subst (λ (f : ViolationFindings). IfSome f.unapproved.first (λ q. IsProject e q.1)) (sym is)
          (missing_names_projects e s t set));
      verdict =
          subst (λ (i : Instance). ViolationNamesProject i c.verdict.result) c.election-election.ensures
          (violation_names_projects _ e _ s t c.verdict.result (c.verdict.ensures _ _ s t is) set);
    }
