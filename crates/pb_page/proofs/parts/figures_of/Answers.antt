use Rattle.std.proofs.Common.{List}
use Rattle.std.specs.Prelude.{⊤}
use Rattle.pb_markup.specs.Pieces.{Piece}
use Rattle.pb_markup.proofs.Adding.{of-any, of-both}
use Rattle.pb_page.proofs.parts.figures_of.Goals as goal

pub returns-in-Prices : goal.returns-in-Prices
returns-in-Prices c = rw c.in-Prices.is (of-both _ _ _ c.prices.ensures.unfunded c.prices.ensures.funded)

pub returns-in-Violation : goal.returns-in-Violation
returns-in-Violation c = rw c.in-Violation.is (of-any (λ (pieces : List Piece). ⊤) _ (λ (pieces : List Piece). tt))

pub returns-in-Refutation : goal.returns-in-Refutation
returns-in-Refutation c = rw c.in-Refutation.is (of-any (λ (pieces : List Piece). ⊤) _ (λ (pieces : List Piece). tt))

pub returns-in-Groups : goal.returns-in-Groups
returns-in-Groups c = rw c.in-Groups.is c.groups.ensures
