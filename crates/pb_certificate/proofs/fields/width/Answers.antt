use Rattle.std.proofs.Common.{arith}
use Rattle.pb_certificate.proofs.Widths.{drops-last, is-empty, keeps-last}
use Rattle.pb_certificate.proofs.fields.width.Goals as goal

pub loop-width-preserved : goal.loop-width-preserved
loop-width-preserved c = grind (arith, is-empty, drops-last)

pub returns-else-is_empty : goal.returns-else-is_empty
returns-else-is_empty c = grind (arith, is-empty, keeps-last)
