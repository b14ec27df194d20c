-- Pieces in which some parts stand in an order.
use Rattle.std.proofs.Common.{◌∙◌, List, [], ◌∷◌, ◌++◌, ap, append_assoc, sym}
use Rattle.pb_markup.specs.Pieces.{Piece}
use Rattle.pb_markup.specs.InOrder.{HasParts}

-- with pieces before them
pub in-order-behind : {X : Type 0} (part : X → List Piece) (xs : List X) (before pieces : List Piece)
    → HasParts part xs pieces → HasParts part xs (before ++ pieces)
in-order-behind part [] before pieces has = tt
in-order-behind part (x ∷ xs) before pieces has = (
  before ++ has.0,
  has.1,
  ap (λ (l : List Piece). before ++ l) has.2 ∙ sym (append_assoc before has.0 (part x ++ has.1)),
  has.3,
)

-- with pieces behind them
pub in-order-before : {X : Type 0} (part : X → List Piece) (xs : List X) (pieces behind : List Piece)
    → HasParts part xs pieces → HasParts part xs (pieces ++ behind)
in-order-before part [] pieces behind has = tt
in-order-before part (x ∷ xs) pieces behind has = (
  has.0,
  has.1 ++ behind,
  ap (λ (l : List Piece). l ++ behind) has.2
      ∙ append_assoc has.0 (part x ++ has.1) behind
      ∙ ap (λ (l : List Piece). has.0 ++ l) (append_assoc (part x) has.1 behind),
  in-order-before part xs has.1 behind has.3,
)

-- with one more part behind them
pub in-order-next : {X : Type 0} (part : X → List Piece) (xs : List X) (x : X) (pieces between behind : List Piece)
    → HasParts part xs pieces → HasParts part (xs ++ x ∷ []) (pieces ++ (between ++ (part x ++ behind)))
in-order-next part [] x pieces between behind has =
    (pieces ++ between, behind, sym (append_assoc pieces between (part x ++ behind)), tt)
in-order-next part (first ∷ xs) x pieces between behind has = (
  has.0,
  has.1 ++ (between ++ (part x ++ behind)),
  ap (λ (l : List Piece). l ++ (between ++ (part x ++ behind))) has.2
      ∙ append_assoc has.0 (part first ++ has.1) (between ++ (part x ++ behind))
      ∙ ap (λ (l : List Piece). has.0 ++ l) (append_assoc (part first) has.1 (between ++ (part x ++ behind))),
  in-order-next part xs x has.1 between behind has.3,
)
