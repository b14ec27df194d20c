use Rattle.std.proofs.Common.{◌≡◌, ◌≤◌, ◌*◌, ◌^◌, filter, take}
use Rattle.pb_election.specs.Outcome.{has}
use Rattle.pb_cohesion.specs.Refutations.{above}
use Rattle.pb_cohesion.proofs.refutations.stable_budgets.counted_above.Given as goal

abbrev pub invariant-loop-j : goal.invariant-loop-j
invariant-loop-j l = record {
  value : l.above ≡ above l.refutation l.left (filter (has l.outcome.marks) (take l.j-index l.ballot)) l.x;
  small : l.above ≤ l.j-index * (20001 * 10 ^ 12);
}
