use Rattle.std.proofs.Common.{◌≡◌, ◌≤◌, ◌*◌, ◌^◌, filter, take}
use Rattle.pb_election.specs.Outcome.{has}
use Rattle.pb_cohesion.specs.Amounts.{largest_by}
use Rattle.pb_cohesion.specs.Refutations.{counts, positive_part}
use Rattle.pb_cohesion.proofs.refutations.budgets.most_counted.Given as goal

abbrev pub invariant-loop-j : goal.invariant-loop-j
invariant-loop-j l = record {
  value : l.most
      ≡ largest_by (λ j. positive_part (counts l.refutation l.left j))
      (filter (has l.outcome.marks) (take l.j-index l.ballot));
  small : l.most ≤ 20001 * 10 ^ 12;
}
