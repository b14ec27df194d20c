use Rattle.std.proofs.Common.{arith}
use Rattle.pb_certificate.proofs.prices.gathering.Turn.close_up_to.Goals as goal

pub loop-self-preserved : goal.loop-self-preserved
loop-self-preserved g c = grind arith
