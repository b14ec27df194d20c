use Rattle.std.proofs.Common.{◌≡◌, ◌≤◌, ◌+◌, ◌*◌, ◌^◌}
use Rattle.std.specs.Prelude.{sum_by}
use Rattle.std.specs.List.{range_with_len}
use Rattle.pb_cohesion.specs.RefutationFindings.{paid_at_least, paid_or_left_at_most}
use Rattle.pb_cohesion.proofs.refutations.costs.costs.Given as goal

abbrev pub invariant-loop-k : goal.invariant-loop-k
invariant-loop-k l = record {
  least : l.at_least
      ≡ sum_by (paid_at_least l.election l.outcome.marks l.refutation) (range_with_len 1 l.k)
      + l.refutation.cover * l.election.limit;
  most : l.at_most ≡ sum_by (paid_or_left_at_most l.election l.outcome.marks l.refutation) (range_with_len 1 l.k);
  small_least : l.at_least ≤ (l.k + 1) * 10 ^ 30;
  small_most : l.at_most ≤ l.k * 10 ^ 30;
}
