use Rattle.std.proofs.Common.{take}
use Rattle.pb_price.specs.Inside.Tallies.{AreChanged, with_supporter}
use Rattle.pb_price.proofs.tally.give.Given as goal

abbrev pub invariant-loop-j : goal.invariant-loop-j
invariant-loop-j l = AreChanged (with_supporter l.left l.offer) l.initial.projects l.projects (take l.j-index l.ballot)
