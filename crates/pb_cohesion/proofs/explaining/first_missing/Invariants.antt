use Rattle.std.proofs.Common.{◌≡◌, [], filter, not, take}
use Rattle.pb_election.specs.Instance.{approves}
use Rattle.pb_cohesion.proofs.explaining.first_missing.Given as goal

abbrev pub invariant-loop-j : goal.invariant-loop-j
invariant-loop-j l = filter (λ j. not (approves l.election l.i j)) (take l.j-index l.demand) ≡ []
