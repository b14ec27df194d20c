use Rattle.std.proofs.Common.{◌≡◌, ◌≤◌, ◌+◌, ◌*◌, ◌^◌}
use Rattle.std.specs.Prelude.{sum_by}
use Rattle.std.specs.List.{range_with_len}
use Rattle.pb_election.specs.Instance.{voters}
use Rattle.pb_cohesion.specs.Refutations.{gain, missed}
use Rattle.pb_cohesion.proofs.refutations.budgets.budgets.Given as goal

abbrev pub invariant-loop-k : goal.invariant-loop-k
invariant-loop-k l = record {
  counted : l.counted
      ≡ sum_by (gain l.election l.outcome.marks l.refutation) (range_with_len 1 l.k)
      + voters l.election * l.refutation.cover;
  taken : l.taken ≡ sum_by (missed l.election l.outcome.marks l.refutation) (range_with_len 1 l.k);
  small_counted : l.counted ≤ 10 ^ 18 + l.k * (20001 * 10 ^ 12);
  small_taken : l.taken ≤ l.k * (20000 * 10 ^ 12);
}
