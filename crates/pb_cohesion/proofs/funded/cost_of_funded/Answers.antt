use Rattle.std.proofs.Common.{arith}
use Rattle.pb_cohesion.proofs.Loops.{sum-failing, sum-passing}
use Rattle.pb_cohesion.proofs.funded.cost_of_funded.Goals as goal
use Rattle.pb_cohesion.proofs.funded.cost_of_funded.Goals.{then-has, else-has}

pub loop-k-preserved : goal.loop-k-preserved
loop-k-preserved c = grind (arith, then-has, sum-passing, else-has, sum-failing)

pub returns-clause-value : goal.returns-clause-value
returns-clause-value c = grind arith
