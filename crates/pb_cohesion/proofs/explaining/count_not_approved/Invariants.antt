use Rattle.std.proofs.Common.{◌≡◌, ◌≤◌, ◌*◌, filter, length, not, take}
use Rattle.std.specs.Prelude.{sum_by}
use Rattle.pb_election.specs.Instance.{approves}
use Rattle.pb_cohesion.proofs.explaining.count_not_approved.Given as goal

abbrev pub invariant-loop-i : goal.invariant-loop-i
invariant-loop-i l =
    (l.count ≡ sum_by (λ i. length (filter (λ j. not (approves l.election i j)) l.demand)) (take l.i-index l.group))
    × (l.count ≤ l.i-index * 20000)
