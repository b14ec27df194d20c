-- Pieces in which some parts stand in an order.
use Rattle.std.specs.Prelude.{◌≡◌, ⊤, List, [], ◌∷◌, ◌++◌}
use Rattle.pb_markup.specs.Pieces.{Piece}

-- of each of these its part, in this order, whatever stands between
abbrev pub HasParts : {X : Type 0} → (X → List Piece) → List X → List Piece → Type 0
HasParts part [] pieces = ⊤
HasParts part (x ∷ xs) pieces =
    (front : List Piece) × (back : List Piece) × (pieces ≡ front ++ (part x ++ back)) × HasParts part xs back
