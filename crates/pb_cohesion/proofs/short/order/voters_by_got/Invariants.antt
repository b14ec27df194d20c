use Rattle.std.proofs.Common.{◌≡◌}
use Rattle.std.specs.List.{range_with_len}
use Rattle.pb_cohesion.specs.Inside.Counting.{with_got}
use Rattle.pb_cohesion.proofs.short.order.voters_by_got.Given as goal

abbrev pub invariant-loop-k : goal.invariant-loop-k
invariant-loop-k l = l.order.items ≡ with_got l.measure l.election l.outcome.marks (range_with_len 1 l.k)
