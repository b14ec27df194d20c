use Rattle.std.proofs.Common.{arith}
use Rattle.pb_price.proofs.Told.{tell-first}
use Rattle.pb_price.proofs.checking.judge.Goals as goal

pub returns-clause-verdict : goal.returns-clause-verdict
returns-clause-verdict c = grind (arith, tell-first)
