use Rattle.std.proofs.Common.{◌≡◌, ◌-◌, length}
use Rattle.pb_figures.proofs.extremes.extremes_in.Given as goal

abbrev pub invariant-loop-behind : goal.invariant-loop-behind
invariant-loop-behind l = l.left.election ≡ l.election

abbrev pub decreases-loop-behind : goal.decreases-loop-behind
decreases-loop-behind l = length l.left.records - l.left.record_number
