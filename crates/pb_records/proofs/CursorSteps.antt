-- The way of a cursor over blank records.
use Rattle.std.proofs.Common.{◌≡◌, ◌∙◌, ◌+◌, ◌++◌, ℕ, List, [], ◌∷◌, refl, sym, ap, arith, true, append_assoc, length, length-append}
use Rattle.std.specs.Prelude.{not}
use Rattle.std.proofs.lemmas.List.Elements.{filter-append}
use Rattle.pb_records.specs.Records.{Rec}
use Rattle.pb_records.specs.Cells.{is_blank, nonblank}
use Rattle.pb_records.specs.Inside.Position.{Position}

-- blank records alone lie between two places
pub record Skips (old : Position) (record_number : ℕ) (left : List Rec) : Type 0 where
  pub blanks : List Rec
  pub are_blank : nonblank blanks ≡ []
  pub cut : old.left ≡ blanks ++ left
  pub at : record_number ≡ old.record_number + length blanks

pub skip-one : {old : Position} {record_number : ℕ} {left rest : List Rec} {r : Rec} → Skips old record_number left → left ≡ r ∷ rest
    → is_blank r ≡ true → Skips old (record_number + 1) rest
skip-one {rest = rest} {r = r} s found e =
    record {
      blanks = s.blanks ++ (r ∷ []);
      are_blank = filter-append (λ x. not (is_blank x)) s.blanks (r ∷ []) ∙ rw (s.are_blank, e) refl;
      cut = s.cut ∙ ap (λ xs. s.blanks ++ xs) found ∙ sym (append_assoc s.blanks (r ∷ []) rest);
      at = omega (arith, s.at, length-append s.blanks (r ∷ []));
    }
