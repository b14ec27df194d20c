use Rattle.std.proofs.Common.{◌≡◌, length}
use Rattle.std.specs.Prelude.{filter}
use Rattle.std.specs.List.{range_with_len}
use Rattle.pb_cohesion.specs.Refutations.{has_role, is_least, is_left, is_most}
use Rattle.pb_explain.proofs.refutation_table.row_counts.Given as goal

abbrev pub invariant-loop-k : goal.invariant-loop-k
invariant-loop-k l = record {
  least : l.rows.least ≡ length (filter (has_role is_least l.refutation) (range_with_len 1 l.k));
  most : l.rows.most ≡ length (filter (has_role is_most l.refutation) (range_with_len 1 l.k));
  left : l.rows.left ≡ length (filter (has_role is_left l.refutation) (range_with_len 1 l.k));
}
