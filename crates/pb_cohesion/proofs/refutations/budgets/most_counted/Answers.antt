use Rattle.std.proofs.Common.{get_or, arith}
use Rattle.pb_cohesion.proofs.Loops.{set-at}
use Rattle.pb_cohesion.proofs.Weights.{largest-failing, largest-passing}
use Rattle.pb_cohesion.proofs.refutations.budgets.most_counted.Goals as goal
use Rattle.pb_cohesion.proofs.refutations.budgets.most_counted.Goals.{then-has, else-has}

pub has-requires-clause-low : goal.has-requires-clause-low
has-requires-clause-low c = grind (arith, set-at)

pub has-requires-clause-high : goal.has-requires-clause-high
has-requires-clause-high c = grind (arith, get_or, set-at)

pub counted-requires-clause-project : goal.counted-requires-clause-project
counted-requires-clause-project c = grind (arith, set-at)

pub loop-j-preserved : goal.loop-j-preserved
loop-j-preserved c = grind (arith, then-has, else-has, largest-failing, largest-passing)
