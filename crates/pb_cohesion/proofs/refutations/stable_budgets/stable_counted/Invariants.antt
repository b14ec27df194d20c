use Rattle.std.proofs.Common.{◌≡◌, ◌-◌, ◌*◌, ◌<◌, ◌≤◌, ◌^◌, ℕ, false, true, filter}
use Rattle.pb_election.specs.Outcome.{has}
use Rattle.pb_cohesion.specs.Refutations.{is_made_up}
use Rattle.pb_cohesion.proofs.refutations.stable_budgets.stable_counted.Given as goal

abbrev pub invariant-loop-low : goal.invariant-loop-low
invariant-loop-low l = record {
  ordered : l.low ≤ l.high;
  small : l.high ≤ 20001 * 10 ^ 12;
  made_up : is_made_up l.refutation l.left (filter (has l.outcome.marks) l.ballot) l.high ≡ true;
  none_below : (x : ℕ) → x < l.low → is_made_up l.refutation l.left (filter (has l.outcome.marks) l.ballot) x ≡ false;
}

abbrev pub decreases-loop-low : goal.decreases-loop-low
decreases-loop-low l = l.high - l.low
