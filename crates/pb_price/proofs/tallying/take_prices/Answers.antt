use Rattle.std.proofs.Common.{arith}
use Rattle.pb_price.proofs.tallying.take_prices.Goals as goal

pub take_payments_of-requires : goal.take_payments_of-requires
take_payments_of-requires c = grind arith

pub returns : goal.returns
returns c = grind arith
