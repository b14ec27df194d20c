use Rattle.std.proofs.Common.{take}
use Rattle.pb_price.specs.Inside.Reached.{IsWordOf}
use Rattle.pb_price.proofs.nearest.word_of.Given as goal

abbrev pub invariant-loop-j : goal.invariant-loop-j
invariant-loop-j l = IsWordOf (take l.j-index l.ballot) l.low l.word
