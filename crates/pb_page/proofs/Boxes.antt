-- The answer in a sentence, and the line that the program prints, as a page comes to have them.
use Rattle.std.proofs.Common.{◌≡◌, ◌∙◌, List, Option, ◌++◌, ap, append_assoc, refl}
use Rattle.std.specs.Prelude.{IfSome, ⊤}
use Rattle.pb_markup.specs.Pieces.{Adds, AddsMade, Piece}
use Rattle.pb_markup.proofs.Adding.{adds-step, append-step, of-any}
use Rattle.pb_page.specs.Answers.{HasAnswer, headline_box, line_box}

-- up to the answer, up to the line, and up to its end
abbrev pub UpToAnswer : List Piece → Type 0
UpToAnswer pieces = (front : List Piece) × (pieces ≡ front ++ headline_box)

abbrev pub UpToLine : List Piece → Type 0
UpToLine pieces = (front : List Piece) × (middle : List Piece) × (pieces ≡ front ++ (headline_box ++ middle))

abbrev pub WithLine : List Piece → Type 0
WithLine pieces =
    (front : List Piece) × (middle : List Piece) × (pieces ≡ front ++ (headline_box ++ (middle ++ line_box)))

pub has-headline : (p q : Option (List Piece)) → Adds p headline_box q → IfSome q UpToAnswer
has-headline p q adds =
    adds-step (λ (pieces : List Piece). ⊤) UpToAnswer p q headline_box (λ these has. (these, refl)) (of-any (λ (pieces : List Piece). ⊤) p (λ pieces. tt)) adds

pub answer-with-middle : (p middle q : Option (List Piece)) → IfSome p UpToAnswer
    → AddsMade (λ (pieces : List Piece). pieces) p middle q → IfSome q UpToLine
answer-with-middle p middle q has adds =
    append-step UpToAnswer UpToLine p middle q
    (λ these those up.
    (up.0, those, ap (λ (l : List Piece). l ++ those) up.1 ∙ append_assoc up.0 headline_box those))
    has adds

pub answer-with-line : (p q : Option (List Piece)) → IfSome p UpToLine → Adds p line_box q → IfSome q WithLine
answer-with-line p q has adds =
    adds-step UpToLine WithLine p q line_box
    (λ these up. (
      up.0,
      up.1,
      ap (λ (l : List Piece). l ++ line_box) up.2
          ∙ append_assoc up.0 (headline_box ++ up.1) line_box
          ∙ ap (λ (l : List Piece). up.0 ++ l) (append_assoc headline_box up.1 line_box),
    ))
    has adds

pub answer-with-rest : (p rest q : Option (List Piece)) → IfSome p WithLine
    → AddsMade (λ (pieces : List Piece). pieces) p rest q → IfSome q HasAnswer
answer-with-rest p rest q has adds =
    append-step WithLine HasAnswer p rest q
    (λ these those up. record {
      front = up.0;
      middle = up.1;
      back = those;
      is =
          ap (λ (l : List Piece). l ++ those) up.2
          ∙ append_assoc up.0 (headline_box ++ (up.1 ++ line_box)) those
          ∙ ap (λ (l : List Piece). up.0 ++ l)
          (append_assoc headline_box (up.1 ++ line_box) those
          ∙ ap (λ (l : List Piece). headline_box ++ l) (append_assoc up.1 line_box those));
    })
    has adds
