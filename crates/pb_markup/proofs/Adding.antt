-- What a page stands for, step by step.
use Rattle.std.proofs.Common.{◌≡◌, ◌∙◌, List, Option, [], ◌∷◌, ◌++◌, ap, append_assoc, subst, sym}
use Rattle.std.proofs.lemmas.List.{append-nil}
use Rattle.std.specs.Prelude.{IfSome, None, Some}
use Rattle.pb_markup.specs.InOrder.{HasParts}
use Rattle.pb_markup.specs.Pieces.{Adds, AddsMade, Piece}
use Rattle.pb_markup.proofs.InOrder.{in-order-next}

-- two steps are one
pub adds-then : (p q r : Option (List Piece)) (xs ys : List Piece) → Adds p xs q → Adds q ys r → Adds p (xs ++ ys) r
adds-then p q None xs ys one two = tt
adds-then p None (Some c) xs ys one two = absurd two
adds-then None (Some b) (Some c) xs ys one two = absurd one
adds-then (Some a) (Some b) (Some c) xs ys one two = two ∙ ap (λ (l : List Piece). l ++ ys) one ∙ append_assoc a xs ys

-- what holds of no pieces in particular
pub of-any : (P : List Piece → Type 0) (p : Option (List Piece)) → ((pieces : List Piece) → P pieces) → IfSome p P
of-any P None all = tt
of-any P (Some a) all = all a

pub of-both : (P Q : List Piece → Type 0) (p : Option (List Piece)) → IfSome p P → IfSome p Q
    → IfSome p (λ pieces. P pieces × Q pieces)
of-both P Q None one two = tt
of-both P Q (Some a) one two = (one, two)

-- a step that keeps something
pub adds-step : (P R : List Piece → Type 0) (p q : Option (List Piece)) (xs : List Piece)
    → ((these : List Piece) → P these → R (these ++ xs)) → IfSome p P → Adds p xs q → IfSome q R
adds-step P R p None xs step has adds = tt
adds-step P R None (Some b) xs step has adds = absurd adds
adds-step P R (Some a) (Some b) xs step has adds = subst R (sym adds) (step a has)

-- a page behind another
pub append-step : (P R : List Piece → Type 0) (p made q : Option (List Piece))
    → ((these those : List Piece) → P these → R (these ++ those)) → IfSome p P
    → AddsMade (λ (pieces : List Piece). pieces) p made q → IfSome q R
append-step P R p made None step has adds = tt
append-step P R p None (Some b) step has adds = absurd adds
append-step P R None (Some m) (Some b) step has adds = absurd adds
append-step P R (Some a) (Some m) (Some b) step has adds = subst R (sym adds) (step a m has)

pub append-behind : (P R : List Piece → Type 0) (p made q : Option (List Piece))
    → ((these those : List Piece) → P those → R (these ++ those)) → IfSome made P
    → AddsMade (λ (pieces : List Piece). pieces) p made q → IfSome q R
append-behind P R p made None step has adds = tt
append-behind P R p None (Some b) step has adds = absurd adds
append-behind P R None (Some m) (Some b) step has adds = absurd adds
append-behind P R (Some a) (Some m) (Some b) step has adds = subst R (sym adds) (step a m has)

-- a page behind another, and one more part behind it
pub part-next : {X : Type 0} (part : X → List Piece) (xs : List X) (x : X) (p front q r : Option (List Piece))
    → AddsMade (λ (pieces : List Piece). pieces) p front q → Adds q (part x) r → IfSome p (HasParts part xs)
    → IfSome r (HasParts part (xs ++ x ∷ []))
part-next part xs x p front q None up_to adds has = tt
part-next part xs x p front None (Some c) up_to adds has = absurd adds
part-next part xs x p None (Some b) (Some c) up_to adds has = absurd up_to
part-next part xs x None (Some f) (Some b) (Some c) up_to adds has = absurd up_to
part-next {X} part xs x (Some a) (Some f) (Some b) (Some c) up_to adds has =
    let is : c ≡ a ++ (f ++ (part x ++ [])) =
    adds
    ∙ ap (λ (l : List Piece). l ++ part x) up_to
    ∙ append_assoc a f (part x)
    ∙ ap (λ (l : List Piece). a ++ (f ++ l)) (sym (append-nil (part x))) in
    subst (HasParts part (xs ++ x ∷ [])) (sym is) (in-order-next part xs x a f [] has)
