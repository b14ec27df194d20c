use Rattle.std.proofs.Common.{get_or, arith}
use Rattle.pb_cohesion.proofs.Loops.{set-at}
use Rattle.pb_cohesion.proofs.refutations.stable_budgets.counted_above.Goals as goal

pub has-requires-clause-low : goal.has-requires-clause-low
has-requires-clause-low c = grind (arith, set-at)

pub has-requires-clause-high : goal.has-requires-clause-high
has-requires-clause-high c = grind (arith, get_or, set-at)

pub counted-requires-clause-project : goal.counted-requires-clause-project
counted-requires-clause-project c = grind (arith, set-at)
