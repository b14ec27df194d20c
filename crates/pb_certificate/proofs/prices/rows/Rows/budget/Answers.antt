use Rattle.std.proofs.Common.{arith, subst}
use Rattle.pb_certificate.specs.Prices.Rows.{IsBetweenRows}
use Rattle.pb_certificate.proofs.OnPrices.ReaderSteps.{between-rows, head-bounds}
use Rattle.pb_certificate.proofs.prices.rows.Rows.budget.Goals as goal

pub returns-clause-sound : goal.returns-clause-sound
returns-clause-sound c = subst IsBetweenRows c.self.view_is (between-rows c.self.inside.reader.value c.self.invariant)

pub returns-clause-high : goal.returns-clause-high
returns-clause-high c = let bounds = head-bounds c.self.inside.reader.value c.self.invariant in grind arith
