use Rattle.std.proofs.Common.{arith}
use Rattle.std.specs.List.{IsDistinct}
use Rattle.pb_certificate.proofs.OnPrices.Admitting.{no-payers}
use Rattle.pb_certificate.proofs.prices.prior_rows.PriorRows.new.Goals as goal

pub returns-clause-remembers : goal.returns-clause-remembers
unfolding IsDistinct
returns-clause-remembers c = grind (arith, no-payers)
