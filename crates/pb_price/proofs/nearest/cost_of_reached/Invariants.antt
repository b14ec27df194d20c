use Rattle.std.proofs.Common.{◌≡◌, ◌≤◌, ◌*◌, ◌^◌, filter}
use Rattle.std.specs.Prelude.{sum_by}
use Rattle.std.specs.List.{range_with_len}
use Rattle.pb_election.specs.Instance.{cost_of}
use Rattle.pb_price.specs.Inside.Reached.{funded_with_bit}
use Rattle.pb_price.proofs.nearest.cost_of_reached.Given as goal

abbrev pub invariant-loop-k : goal.invariant-loop-k
invariant-loop-k l = record {
  value : l.cost ≡ sum_by (cost_of l.election) (filter (funded_with_bit l.outcome.marks l.words l.place) (range_with_len 1 l.k));
  small : l.cost ≤ l.k * 10 ^ 18;
}
