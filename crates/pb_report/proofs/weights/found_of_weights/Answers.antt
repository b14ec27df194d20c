use Rattle.std.proofs.Common.{subst, sym}
use Rattle.std.specs.Prelude.{IfSome}
use Rattle.pb_cohesion.specs.declared.RefutationFindings.{RefutationFindings}
use Rattle.pb_election.specs.Instance.{Instance, IsProject}
use Rattle.pb_cohesion.specs.Failed.{RefutationNamesProject}
use Rattle.pb_reply.proofs.Culprits.{refutation_names_projects}
use Rattle.pb_report.proofs.Told.{misplaced_names_projects}
use Rattle.pb_report.proofs.weights.found_of_weights.Goals as goal

pub returns-clause-told : goal.returns-clause-told
returns-clause-told c =
    let e = c.election-election.result.now in
    let w = c.outcome-outcome.result.now.marks in
    let r = c.args.refutation in
    let is = c.refutation_findings-findings.ensures in
    record {
      project =
          subst (λ (i : Instance). IfSome c.refutation_findings-findings.result.misplaced.first (IsProject i))
          c.election-election.ensures
          (subst (λ (f : RefutationFindings). IfSome f.misplaced.first (IsProject e)) (sym is)
          (misplaced_names_projects e w r));
      verdict =
          subst (λ (i : Instance). RefutationNamesProject i c.verdict.result) c.election-election.ensures
          (refutation_names_projects c.args.stable e w r c.verdict.result (c.verdict.ensures c.args.stable e w r is));
    }
