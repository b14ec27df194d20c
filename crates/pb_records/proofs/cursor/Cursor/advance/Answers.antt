use Rattle.std.proofs.Common.{arith}
use Rattle.pb_records.proofs.CursorSteps.{skip-one}
use Rattle.pb_records.proofs.cursor.Cursor.advance.Goals as goal

pub loop-next-preserved : goal.loop-next-preserved
loop-next-preserved c = grind (arith, skip-one)
