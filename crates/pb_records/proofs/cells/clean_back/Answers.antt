use Rattle.std.proofs.Common.{arith}
use Rattle.pb_records.proofs.CellLemmas.{back-ends, back-goes, back-stays, range-start}
use Rattle.pb_records.proofs.cells.clean_back.Goals as goal
use Rattle.pb_records.proofs.cells.clean_back.Goals.{then-loop-end-test+else-is_space, else-loop-end-test}

pub loop-end-preserved : goal.loop-end-preserved
loop-end-preserved c = grind (arith, back-goes)

pub returns : goal.returns
returns c = grind (arith, then-loop-end-test+else-is_space, range-start, back-stays, else-loop-end-test, back-ends)
