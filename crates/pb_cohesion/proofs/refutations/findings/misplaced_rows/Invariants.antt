use Rattle.std.proofs.Common.{◌≡◌, ◌≤◌, filter, length}
use Rattle.std.specs.Prelude.{not, slice_get}
use Rattle.std.specs.List.{range_with_len}
use Rattle.pb_election.specs.Outcome.{has}
use Rattle.pb_certificate.specs.Refutations.{row_of}
use Rattle.pb_cohesion.specs.Refutations.{suits}
use Rattle.pb_cohesion.proofs.refutations.findings.misplaced_rows.Given as goal

abbrev pub invariant-loop-k : goal.invariant-loop-k
invariant-loop-k l = record {
  first : l.misplaced.first
      ≡ slice_get (filter (λ c. not (suits (has l.outcome.marks c) (row_of l.refutation c))) (range_with_len 1 l.k)) 0;
  count : l.misplaced.count
      ≡ length (filter (λ c. not (suits (has l.outcome.marks c) (row_of l.refutation c))) (range_with_len 1 l.k));
  few : l.misplaced.count ≤ l.k;
}
