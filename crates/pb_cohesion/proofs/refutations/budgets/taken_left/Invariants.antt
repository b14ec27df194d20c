use Rattle.std.proofs.Common.{◌≡◌, ◌≤◌, ◌*◌, ◌^◌, filter, not, take}
use Rattle.std.specs.Prelude.{sum_by}
use Rattle.pb_election.specs.Outcome.{has}
use Rattle.pb_certificate.specs.Refutations.{weight}
use Rattle.pb_cohesion.proofs.refutations.budgets.taken_left.Given as goal

abbrev pub invariant-loop-j : goal.invariant-loop-j
invariant-loop-j l = record {
  value : l.total
      ≡ sum_by (weight l.refutation) (filter (λ j. not (has l.outcome.marks j)) (take l.j-index l.ballot));
  small : l.total ≤ l.j-index * 10 ^ 12;
}
