-- The rows of the tables of projects on a page about prices, by an amount that stands in each.
use Rattle.std.specs.Prelude.{⊤, ◌^◌, nat_lt, if◌then◌else◌, ℕ, ℤ, Bool, List, [], ◌∷◌, map, take}
use Rattle.pb_cohesion.specs.declared.GroupFigures.{GroupFigures}
use Rattle.pb_cohesion.specs.declared.Mode.{Mode}
use Rattle.pb_price.specs.declared.ProjectMargins.{ProjectMargins}
use Rattle.pb_markup.specs.InOrder.{HasParts}
use Rattle.pb_markup.specs.Pieces.{Amount, Piece}
use Rattle.pb_figures.specs.Ranking as ranking
use Rattle.pb_figures.specs.Ranking.{AreRanked, by_group, by_missing, by_size}
use Rattle.pb_figures.specs.declared.figure.Figure.{Figure}
use Rattle.pb_figures.specs.declared.figure.Figure.TheVariants as figure
use Rattle.pb_figures.specs.declared.told.CertificateFigures.{CertificateFigures}
use Rattle.pb_figures.specs.declared.told.CertificateFigures.TheVariants as found

-- an amount as a piece
abbrev pub amount_piece : Figure → List Piece
amount_piece f = Amount f ∷ []

-- the number of a project as figures have it; no election has so many projects that it would be another
abbrev pub narrow : ℕ → ℕ
narrow j = if nat_lt j (2 ^ 32) then j else 0

-- how many rows a table has at most
abbrev pub most_rows : ℕ
most_rows = 1000

-- in the row of a project that isn't funded stands what its supporters have left, or in the stable form can offer
abbrev pub unfunded_amount : Bool → ℤ × ℕ → Figure
unfunded_amount stable x = if stable then figure.Offer (narrow x.1) else figure.Left (narrow x.1)

abbrev pub ListsUnfunded : Bool → List ProjectMargins → List Piece → Type 0
ListsUnfunded stable ms pieces =
    (ranked : List (ℤ × ℕ)) × AreRanked by_missing (ranking.unfunded stable ms) ranked
    × HasParts amount_piece (map (unfunded_amount stable) (take most_rows ranked)) pieces

-- and in that of one that is funded its cost
abbrev pub funded_amount : ℕ × ℕ × ℕ → Figure
funded_amount x = figure.Cost (narrow x.2)

abbrev pub ListsFunded : List ProjectMargins → List Piece → Type 0
ListsFunded ms pieces =
    (ranked : List (ℕ × ℕ × ℕ)) × AreRanked by_size (ranking.funded ms) ranked
    × HasParts amount_piece (map funded_amount (take most_rows ranked)) pieces

-- In the row of a project's group stands its part of the limit. Those that fall short come first, the largest first, and
-- the others behind them in the order of the file.
abbrev pub group_amount : ℕ × ℕ → Figure
group_amount x = figure.Part (narrow x.1)

abbrev pub ListsGroups : List GroupFigures → List Piece → Type 0
ListsGroups xs pieces =
    (ranked : List (ℕ × ℕ)) × AreRanked by_group (ranking.groups xs) ranked
    × HasParts amount_piece (map group_amount (take most_rows ranked)) pieces

-- The rows of the tables of a page stand in their orders: of both tables about prices, and of that about groups that
-- fall short. A page about a violation or a refutation has none of them.
abbrev pub ListsProjects : Mode → CertificateFigures → List Piece → Type 0
ListsProjects m (found.Prices p) pieces =
    ListsUnfunded m.stable p.margins.projects.items pieces × ListsFunded p.margins.projects.items pieces
ListsProjects m (found.Violation v) pieces = ⊤
ListsProjects m (found.Refutation r) pieces = ⊤
ListsProjects m (found.Groups g) pieces = ListsGroups g.groups.items pieces
