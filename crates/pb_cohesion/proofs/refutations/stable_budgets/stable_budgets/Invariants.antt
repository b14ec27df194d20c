use Rattle.std.proofs.Common.{◌≡◌, ◌≤◌, ◌+◌, ◌*◌, ◌^◌}
use Rattle.std.specs.Prelude.{sum_by}
use Rattle.std.specs.List.{range_with_len}
use Rattle.pb_election.specs.Instance.{voters}
use Rattle.pb_cohesion.specs.Refutations.{stable_gain}
use Rattle.pb_cohesion.proofs.refutations.stable_budgets.stable_budgets.Given as goal

abbrev pub invariant-loop-k : goal.invariant-loop-k
invariant-loop-k l = record {
  counted : l.total
      ≡ sum_by (stable_gain l.election l.outcome.marks l.refutation) (range_with_len 1 l.k)
      + voters l.election * l.refutation.cover;
  small : l.total ≤ 10 ^ 18 + l.k * (20001 * 10 ^ 12);
}
