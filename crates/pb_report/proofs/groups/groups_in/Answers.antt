use Rattle.std.proofs.Common.{subst}
use Rattle.pb_cohesion.specs.Closest.{AreAllFigures}
use Rattle.pb_election.specs.Instance.{Instance}
use Rattle.pb_election.specs.Outcome.{Funding}
use Rattle.pb_report.proofs.Told.{figures_told}
use Rattle.pb_report.proofs.groups.groups_in.Goals as goal

pub returns-clause-figures : goal.returns-clause-figures
returns-clause-figures c =
    let m = c.args.measure in
    let xs = c.in_ok-figures.figures.items in
    let o = c.args.decided.now.outcome in
    subst (λ (e : Instance). AreAllFigures m e o.marks xs) c.election-election.ensures
    (subst (λ (w : Funding). AreAllFigures m c.election-election.result.now w.marks xs) c.outcome-outcome.ensures.value
    c.in_ok-figures.ensures.figures)

pub returns-clause-told : goal.returns-clause-told
returns-clause-told c =
    let m = c.args.measure in
    let xs = c.in_ok-figures.figures.items in
    let o = c.args.decided.now.outcome in
    figures_told m c.args.decided.now.election o.marks xs
    (subst (λ (e : Instance). AreAllFigures m e o.marks xs) c.election-election.ensures
    (subst (λ (w : Funding). AreAllFigures m c.election-election.result.now w.marks xs) c.outcome-outcome.ensures.value
    c.in_ok-figures.ensures.figures))
    c.in_ok-figures.ensures.small
