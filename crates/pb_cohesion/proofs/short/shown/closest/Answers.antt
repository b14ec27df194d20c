use Rattle.std.proofs.Common.{take_all, arith}
use Rattle.std.proofs.lemmas.List.Sums.{fold_more}
use Rattle.pb_cohesion.proofs.short.shown.closest.Goals as goal

pub loop-project-init : goal.loop-project-init
loop-project-init c = grind arith

pub loop-project-preserved : goal.loop-project-preserved
loop-project-preserved c = grind (arith, fold_more)

pub returns : goal.returns
returns c = grind (arith, take_all)
