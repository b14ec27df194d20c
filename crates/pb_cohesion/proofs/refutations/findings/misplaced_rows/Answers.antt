use Rattle.std.proofs.Common.{arith}
use Rattle.pb_cohesion.proofs.Loops.{filter-failing, filter-passing}
use Rattle.pb_cohesion.proofs.Weights.{first-with}
use Rattle.std.proofs.lemmas.List.{length-append}
use Rattle.pb_cohesion.proofs.refutations.findings.misplaced_rows.Goals as goal
use Rattle.pb_cohesion.proofs.refutations.findings.misplaced_rows.Goals.{then-is_misplaced, else-is_misplaced}

pub loop-k-preserved : goal.loop-k-preserved
loop-k-preserved c =
    grind (arith, then-is_misplaced, else-is_misplaced, filter-failing, filter-passing, first-with, length-append)
