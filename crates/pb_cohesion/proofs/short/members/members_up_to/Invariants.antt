use Rattle.std.proofs.Common.{◌≡◌, filter}
use Rattle.std.specs.Prelude.{◌&&◌, nat_le}
use Rattle.std.specs.List.{range_with_len}
use Rattle.pb_election.specs.Instance.{approves}
use Rattle.pb_cohesion.specs.Short.{got}
use Rattle.pb_cohesion.proofs.short.members.members_up_to.Given as goal

abbrev pub invariant-loop-k : goal.invariant-loop-k
invariant-loop-k l =
    l.members.items
    ≡ filter (λ i. approves l.election i l.project && nat_le (got l.measure l.election l.outcome.marks i) l.most)
    (range_with_len 1 l.k)
