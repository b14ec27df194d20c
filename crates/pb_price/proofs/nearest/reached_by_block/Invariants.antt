use Rattle.pb_price.specs.Inside.Reached.{AreReached}
use Rattle.pb_price.proofs.nearest.reached_by_block.Given as goal

abbrev pub invariant-loop-k : goal.invariant-loop-k
invariant-loop-k l = AreReached l.k l.election l.low l.words.items
