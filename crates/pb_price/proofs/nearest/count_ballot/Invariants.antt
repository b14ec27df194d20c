use Rattle.std.proofs.Common.{take}
use Rattle.pb_price.specs.Inside.Reached.{AreCounted}
use Rattle.pb_price.proofs.nearest.count_ballot.Given as goal

abbrev pub invariant-loop-j : goal.invariant-loop-j
invariant-loop-j l = AreCounted l.initial.counts l.counts (take l.j-index l.ballot)
