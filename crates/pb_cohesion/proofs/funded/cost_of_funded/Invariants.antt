use Rattle.std.proofs.Common.{◌≡◌, ◌≤◌, ◌*◌, ◌^◌, filter}
use Rattle.std.specs.Prelude.{sum_by}
use Rattle.std.specs.List.{range_with_len}
use Rattle.pb_election.specs.Instance.{cost_of}
use Rattle.pb_election.specs.Outcome.{has}
use Rattle.pb_cohesion.proofs.funded.cost_of_funded.Given as goal

abbrev pub invariant-loop-k : goal.invariant-loop-k
invariant-loop-k l = record {
  value : l.cost ≡ sum_by (cost_of l.election) (filter (has l.outcome.marks) (range_with_len 1 l.k));
  small : l.cost ≤ l.k * 10 ^ 18;
}
