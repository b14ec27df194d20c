use Rattle.std.proofs.Common.{◌≡◌, ◌≤◌, ◌*◌, ◌+◌, length, drop}
use Rattle.pb_money.specs.Money.{most_money}
use Rattle.pb_election.specs.Outcome as funding
use Rattle.pb_election.proofs.outcome.cost_of_marked.Given as goal

abbrev pub invariant-loop-marked : goal.invariant-loop-marked
invariant-loop-marked l =
    (l.total + funding.cost_of_marked (drop (length l.yielded) l.marks) (drop (length l.yielded) l.costs)
    ≡ funding.cost_of_marked l.marks l.costs)
    × (length l.yielded ≤ length l.costs)
    × (l.total ≤ length l.yielded * most_money)
