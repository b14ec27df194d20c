-- The rows of a table, one after another.
use Rattle.std.proofs.Common.{◌≡◌, ◌∙◌, ◌+◌, ◌<◌, ◌++◌, ℕ, Bool, List, Option, [], ◌∷◌, ap, get_or, length, map, subst, sym, take}
use Rattle.std.proofs.lemmas.List.{map-append, take_more}
use Rattle.std.specs.Prelude.{IfSome}
use Rattle.pb_cohesion.specs.declared.GroupFigures.{GroupFigures}
use Rattle.pb_cohesion.specs.declared.Mode.{Mode}
use Rattle.pb_price.specs.declared.ProjectMargins.{ProjectMargins}
use Rattle.pb_markup.specs.InOrder.{HasParts}
use Rattle.pb_markup.specs.Pieces.{Adds, AddsMade, Piece}
use Rattle.pb_price_parts.specs.Rows.{ListsFunded, ListsGroups, ListsProjects, ListsUnfunded, amount_piece}
use Rattle.pb_figures.specs.declared.figure.Figure.{Figure}
use Rattle.pb_figures.specs.declared.told.CertificateFigures.{CertificateFigures}
use Rattle.pb_figures.specs.declared.told.CertificateFigures.TheVariants as found
use Rattle.pb_markup.proofs.Adding.{append-step, part-next}
use Rattle.pb_markup.proofs.InOrder.{in-order-before, in-order-behind}

-- with one more row: what stands in it before its amount, the amount, and what stands behind it
pub rows-next : {X : Type 0} (shown : X → Figure) (xs : List X) (k : ℕ) (d : X)
    (page front first second back new : Option (List Piece)) → k < length xs
    → AddsMade (λ (pieces : List Piece). pieces) page front first → Adds first (amount_piece (shown (get_or xs k d))) second
    → AddsMade (λ (pieces : List Piece). pieces) second back new
    → IfSome page (HasParts amount_piece (map shown (take k xs)))
    → IfSome new (HasParts amount_piece (map shown (take (k + 1) xs)))
rows-next {X} shown xs k d page front first second back new below up_to amount behind has =
    let before = map shown (take k xs) in
    let listed : map shown (take (k + 1) xs) ≡ before ++ shown (get_or xs k d) ∷ [] =
    ap (λ (l : List X). map shown l) (take_more xs k d below) ∙ map-append shown (take k xs) (get_or xs k d ∷ []) in
    let rows = before ++ shown (get_or xs k d) ∷ [] in
    let with_rows : List Piece → Type 0 = HasParts amount_piece rows in
    subst (λ (fs : List Figure). IfSome new (HasParts amount_piece fs)) (sym listed)
    (append-step with_rows with_rows second back new (in-order-before amount_piece rows)
    (part-next amount_piece before (shown (get_or xs k d)) page front first second up_to amount has)
    behind)

-- what a part of a page lists, with pieces before it and behind it
pub unfunded-before : (stable : Bool) (ms : List ProjectMargins) (pieces behind : List Piece)
    → ListsUnfunded stable ms pieces → ListsUnfunded stable ms (pieces ++ behind)
unfunded-before stable ms pieces behind lists =
    (lists.0, lists.1, in-order-before amount_piece _ pieces behind lists.2)

pub funded-before : (ms : List ProjectMargins) (pieces behind : List Piece) → ListsFunded ms pieces
    → ListsFunded ms (pieces ++ behind)
funded-before ms pieces behind lists = (lists.0, lists.1, in-order-before amount_piece _ pieces behind lists.2)

pub funded-behind : (ms : List ProjectMargins) (before pieces : List Piece) → ListsFunded ms pieces
    → ListsFunded ms (before ++ pieces)
funded-behind ms before pieces lists = (lists.0, lists.1, in-order-behind amount_piece _ before pieces lists.2)

pub groups-before : (xs : List GroupFigures) (pieces behind : List Piece) → ListsGroups xs pieces
    → ListsGroups xs (pieces ++ behind)
groups-before xs pieces behind lists = (lists.0, lists.1, in-order-before amount_piece _ pieces behind lists.2)

pub groups-behind : (xs : List GroupFigures) (before pieces : List Piece) → ListsGroups xs pieces
    → ListsGroups xs (before ++ pieces)
groups-behind xs before pieces lists = (lists.0, lists.1, in-order-behind amount_piece _ before pieces lists.2)

pub lists-behind : (m : Mode) (f : CertificateFigures) (before pieces : List Piece) → ListsProjects m f pieces
    → ListsProjects m f (before ++ pieces)
lists-behind m (found.Prices p) before pieces lists = (
  (lists.0.0, lists.0.1, in-order-behind amount_piece _ before pieces lists.0.2),
  funded-behind p.margins.projects.items before pieces lists.1,
)
lists-behind m (found.Violation v) before pieces lists = tt
lists-behind m (found.Refutation r) before pieces lists = tt
lists-behind m (found.Groups g) before pieces lists = groups-behind g.groups.items before pieces lists

pub lists-before : (m : Mode) (f : CertificateFigures) (pieces behind : List Piece) → ListsProjects m f pieces
    → ListsProjects m f (pieces ++ behind)
lists-before m (found.Prices p) pieces behind lists = (
  unfunded-before m.stable p.margins.projects.items pieces behind lists.0,
  funded-before p.margins.projects.items pieces behind lists.1,
)
lists-before m (found.Violation v) pieces behind lists = tt
lists-before m (found.Refutation r) pieces behind lists = tt
lists-before m (found.Groups g) pieces behind lists = groups-before g.groups.items pieces behind lists
