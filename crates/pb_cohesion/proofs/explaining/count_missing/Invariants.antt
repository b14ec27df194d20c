use Rattle.pb_cohesion.proofs.Counted.{AreCommon}
use Rattle.pb_cohesion.proofs.explaining.count_missing.Given as goal

abbrev pub invariant-loop-j : goal.invariant-loop-j
invariant-loop-j l = AreCommon l.demand l.j-items l.j-index l.approved
