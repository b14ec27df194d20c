-- The head records of a file, by their cells.
use Rattle.std.proofs.Common.{◌≡◌, ◌∙◌, ℕ, Bool, true, false, cond, List, [], ◌∷◌, length, refl, sym, ap, arith, Some}
use Rattle.std.specs.Prelude.{◌==◌, ◌&&◌, Result, Ok, Err, slice_index_or}
use Rattle.std.specs.Result.{result_map_both}
use Rattle.std.specs.Str.{bytes_eq}
use Rattle.std.proofs.lemmas.Bool.{and_parts, eqb-true}
use Rattle.std.proofs.lemmas.Slice.Eq.{bytes_eq-Decides}
use Rattle.std.proofs.Math.Bool.{and-false}
use Rattle.pb_records.specs.Records.{Field, Rec}
use Rattle.pb_records.specs.Cells.{cell}
use Rattle.pb_certificate.specs.Fields.{StatesNumber, fields, head_number, same_fields, whole_within}
use Rattle.pb_certificate.specs.declared.refusal.CertFault.{CertFault}
use Rattle.pb_certificate.specs.declared.refusal.CertFault.TheVariants as fault
use Rattle.pb_certificate.proofs.Cells.{cell-is, field-cell}

two-plain : (x y : Bool) → (x && (y && true)) ≡ ((true && x) && y)
two-plain x y = grind arith

three-plain : (x y z : Bool) → (x && (y && (z && true))) ≡ (((true && x) && y) && z)
three-plain x y z = grind arith

two-by : (fs : List Field) (a b : Field) → same_fields fs (a ∷ b ∷ [])
    ≡ ((length fs == 2) && bytes_eq (slice_index_or fs 0 []) a && bytes_eq (slice_index_or fs 1 []) b)
two-by [] a b = refl
two-by (x ∷ []) a b = and-false (bytes_eq x a)
two-by (x ∷ y ∷ []) a b = two-plain (bytes_eq x a) (bytes_eq y b)
two-by (x ∷ y ∷ z ∷ zs) a b = grind arith

three-by : (fs : List Field) (a b c : Field)
    → same_fields fs (a ∷ b ∷ c ∷ [])
    ≡ ((length fs == 3) && bytes_eq (slice_index_or fs 0 []) a && bytes_eq (slice_index_or fs 1 []) b && bytes_eq
    (slice_index_or fs 2 []) c)
three-by [] a b c = refl
three-by (x ∷ []) a b c = and-false (bytes_eq x a)
three-by (x ∷ y ∷ []) a b c = rw (and-false (bytes_eq y b), and-false (bytes_eq x a)) refl
three-by (x ∷ y ∷ z ∷ []) a b c = three-plain (bytes_eq x a) (bytes_eq y b) (bytes_eq z c)
three-by (x ∷ y ∷ z ∷ w ∷ ws) a b c = grind arith

-- the same by the record's cells
pub two_cells : (r : Rec) (a b : Field) → same_fields (fields r) (a ∷ b ∷ [])
    ≡ ((length (fields r) == 2) && bytes_eq (cell 0 r) a && bytes_eq (cell 1 r) b)
two_cells r a b = two-by (fields r) a b ∙ rw (field-cell r 0, field-cell r 1) refl

pub three_cells : (r : Rec) (a b c : Field)
    → same_fields (fields r) (a ∷ b ∷ c ∷ [])
    ≡ ((length (fields r) == 3) && bytes_eq (cell 0 r) a && bytes_eq (cell 1 r) b && bytes_eq (cell 2 r) c)
three_cells r a b c = three-by (fields r) a b c ∙ rw (field-cell r 0, field-cell r 1, field-cell r 2) refl

pub same-is : (fs gs : List Field) → same_fields fs gs ≡ true → fs ≡ gs
same-is [] [] h = refl
same-is [] (g ∷ gs) h = cc
same-is (f ∷ fs) [] h = cc
same-is (f ∷ fs) (g ∷ gs) h =
    let parts = and_parts (bytes_eq f g) (same_fields fs gs) h in
    let first : f ≡ g = (bytes_eq-Decides f g).0 parts.0 in
    let rest : fs ≡ gs = same-is fs gs parts.1 in
    cc

-- what a head record gives that has to have these fields
pub fields-were : {H : Type 0} (r : Rec) (fs : List Field) (h next : H)
    → cond (same_fields (fields r) fs) (Ok h) (Err fault.BadHead) ≡ Ok next → (fields r ≡ fs) × (h ≡ next)
fields-were {H} r fs h next is = by (same_fields (fields r) fs) refl is
  where
    by : (b : Bool) → same_fields (fields r) fs ≡ b → cond b (Ok h) (Err fault.BadHead) ≡ Ok next
        → (fields r ≡ fs) × (h ≡ next)
    by true same e = (same-is (fields r) fs same, cc e)
    by false same e = cc e

-- a record of two fields, by its cells
pub pair-is : (r : Rec) → (length (fields r) == 2) ≡ true → fields r ≡ cell 0 r ∷ cell 1 r ∷ []
pair-is r two = by (fields r) refl (eqb-true (length (fields r)) 2 two)
  where
    by : (fs : List Field) → fields r ≡ fs → length fs ≡ 2 → fs ≡ cell 0 r ∷ cell 1 r ∷ []
    by [] is e = absurd (omega arith)
    by (x ∷ []) is e = absurd (omega arith)
    by (x ∷ y ∷ []) is e =
        let first : x ≡ cell 0 r = sym (ap (λ (gs : List Field). slice_index_or gs 0 []) is) ∙ field-cell r 0 in
        let second : y ≡ cell 1 r = sym (ap (λ (gs : List Field). slice_index_or gs 1 []) is) ∙ field-cell r 1 in
        rw (first, second) refl
    by (x ∷ y ∷ z ∷ zs) is e = absurd (omega arith)

pub triple-is : (r : Rec) → (length (fields r) == 3) ≡ true → fields r ≡ cell 0 r ∷ cell 1 r ∷ cell 2 r ∷ []
triple-is r three = by (fields r) refl (eqb-true (length (fields r)) 3 three)
  where
    by : (fs : List Field) → fields r ≡ fs → length fs ≡ 3 → fs ≡ cell 0 r ∷ cell 1 r ∷ cell 2 r ∷ []
    by [] is e = absurd (omega arith)
    by (x ∷ []) is e = absurd (omega arith)
    by (x ∷ y ∷ []) is e = absurd (omega arith)
    by (x ∷ y ∷ z ∷ []) is e =
        let first : x ≡ cell 0 r = sym (ap (λ (gs : List Field). slice_index_or gs 0 []) is) ∙ field-cell r 0 in
        let second : y ≡ cell 1 r = sym (ap (λ (gs : List Field). slice_index_or gs 1 []) is) ∙ field-cell r 1 in
        let third : z ≡ cell 2 r = sym (ap (λ (gs : List Field). slice_index_or gs 2 []) is) ∙ field-cell r 2 in
        rw (first, second, third) refl
    by (x ∷ y ∷ z ∷ w ∷ ws) is e = absurd (omega arith)

-- what the number of a head record is, and whose number it is
number-taken : (name : Field) (least most n : ℕ) (r : Rec) → Ok n ≡ head_number name least most r
    → (((length (fields r) == 2) && bytes_eq (cell 0 r) name) ≡ true)
    × (whole_within least most (cell 1 r) ≡ Some n)
number-taken name least most n r h = grind arith

states-number : (name : Field) (least most n : ℕ) (r : Rec)
    → ((length (fields r) == 2) && bytes_eq (cell 0 r) name) ≡ true
    → whole_within least most (cell 1 r) ≡ Some n → StatesNumber name least most r n
states-number name least most n r is value = grind (arith, and_parts, bytes_eq-Decides, pair-is)

number-states : (name : Field) (least most n : ℕ) (r : Rec) → Ok n ≡ head_number name least most r
    → StatesNumber name least most r n
number-states name least most n r h =
    let taken = number-taken name least most n r h in states-number name least most n r taken.0 taken.1

pub number-was : {H : Type 0} (name : Field) (least most : ℕ) (with : ℕ → H) (r : Rec) (next : H)
    → result_map_both with (λ f. f) (head_number name least most r) ≡ Ok next
    → (n : ℕ) × StatesNumber name least most r n × (with n ≡ next)
number-was {H} name least most with r next is = by (head_number name least most r) refl is
  where
    by : (x : Result ℕ CertFault) → head_number name least most r ≡ x → result_map_both with (λ f. f) x ≡ Ok next
        → (n : ℕ) × StatesNumber name least most r n × (with n ≡ next)
    by (Ok n) number e = (n, number-states name least most n r (sym number), cc e)
    by (Err f) number e = cc e

pub head-number-is : (name : Field) (least most n : ℕ) (r : Rec) → StatesNumber name least most r n
    → head_number name least most r ≡ Ok n
head-number-is name least most n r h =
    rw (
      ap length h.1,
      cell-is r (name ∷ h.0 ∷ []) 0 h.1,
      cell-is r (name ∷ h.0 ∷ []) 1 h.1,
      (bytes_eq-Decides name name).1 refl,
      h.2,
    ) refl
