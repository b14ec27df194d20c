use Rattle.std.proofs.Common.{◌≡◌, ◌≤◌, ◌*◌, ◌^◌, filter, take}
use Rattle.std.specs.Prelude.{sum_by}
use Rattle.pb_election.specs.Outcome.{has}
use Rattle.pb_cohesion.proofs.worths.worth_of_funded.Given as goal

abbrev pub invariant-loop-j : goal.invariant-loop-j
invariant-loop-j g l =
    (l.total ≡ sum_by (g.S.Satisfaction.meaning l.satisfaction l.election)
    (filter (has l.outcome.marks) (take l.j-index l.projects))) × (l.total ≤ l.j-index * 10 ^ 18)
