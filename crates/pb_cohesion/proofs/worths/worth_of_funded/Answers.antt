use Rattle.std.proofs.Common.{get_or, arith}
use Rattle.pb_cohesion.proofs.Loops.{set-at}
use Rattle.pb_cohesion.proofs.worths.worth_of_funded.Goals as goal

pub has-requires-clause-low : goal.has-requires-clause-low
has-requires-clause-low g c = grind (arith, set-at)

pub has-requires-clause-high : goal.has-requires-clause-high
has-requires-clause-high g c = grind (arith, get_or, set-at)

pub worth-total-requires : goal.worth-total-requires
worth-total-requires g c = grind (arith, set-at)
