use Rattle.std.proofs.Common.{refl}
use Rattle.pb_page.proofs.telling.figures_of.Goals as goal

pub returns-in_ok-figures-in-Prices : goal.returns-in_ok-figures-in-Prices
returns-in_ok-figures-in-Prices c =
    rw c.in-Prices.is (c.in_ok-figures-in-Prices.figures, refl, c.in_ok-figures-in-Prices.ensures)

pub returns-in_ok-figures-in-Group : goal.returns-in_ok-figures-in-Group
returns-in_ok-figures-in-Group c =
    rw c.in-Group.is (c.in_ok-figures-in-Group.figures, refl, c.in_ok-figures-in-Group.ensures)

pub returns-in_ok-figures-in-Weights : goal.returns-in_ok-figures-in-Weights
returns-in_ok-figures-in-Weights c =
    rw c.in-Weights.is (c.in_ok-figures-in-Weights.figures, refl, c.in_ok-figures-in-Weights.ensures)
