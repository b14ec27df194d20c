use Rattle.std.proofs.Common.{◌≡◌, ◌≤◌, ◌*◌, ◌^◌, take}
use Rattle.std.specs.Prelude.{sum_by}
use Rattle.pb_election.specs.Instance.{cost_of}
use Rattle.pb_cohesion.proofs.worths.cost_of_all.Given as goal

abbrev pub invariant-loop-j : goal.invariant-loop-j
invariant-loop-j l = (l.total ≡ sum_by (cost_of l.election) (take l.j-index l.projects))
    × (l.total ≤ l.j-index * 10 ^ 18)
