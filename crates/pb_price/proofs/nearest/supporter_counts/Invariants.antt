use Rattle.pb_price.specs.Inside.Reached.{AreSupporters}
use Rattle.pb_price.proofs.nearest.supporter_counts.Given as goal

abbrev pub invariant-loop-k : goal.invariant-loop-k
invariant-loop-k l = AreSupporters l.k l.election l.counts.items
