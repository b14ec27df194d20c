use Rattle.std.proofs.Common.{take}
use Rattle.pb_price.specs.Inside.Reached.{GetWord}
use Rattle.pb_price.proofs.nearest.add_word.Given as goal

abbrev pub invariant-loop-j : goal.invariant-loop-j
invariant-loop-j l = GetWord l.word l.initial.words l.words (take l.j-index l.ballot)
