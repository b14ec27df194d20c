use Rattle.std.proofs.Common.{take}
use Rattle.pb_price.specs.Inside.Tallies.{AreChanged, marked_with}
use Rattle.pb_price.proofs.tally.mark.Given as goal

abbrev pub invariant-loop-j : goal.invariant-loop-j
invariant-loop-j l = AreChanged (marked_with l.voter) l.initial.projects l.projects (take l.j-index l.ballot)
