-- Whether a record has two fields and no more, by its cells.
use Rattle.std.proofs.Common.{◌≡◌, ◌∙◌, Bool, true, false, List, [], ◌∷◌, drop, refl, sym, arith}
use Rattle.std.specs.Prelude.{◌&&◌, if◌then◌else◌}
use Rattle.std.specs.Str.{bytes_eq}
use Rattle.csv.specs.Records.{field_at}
use Rattle.pb_money.specs.Digits.{is_empty}
use Rattle.pb_records.specs.Records.{Field, Rec}
use Rattle.pb_records.specs.Cells.{cell, clean, is_blank}
use Rattle.pb_records.proofs.Cleaning.{clean-nil}
use Rattle.pb_certificate.specs.Fields.{fields, same_fields}

-- the fields that count are none where all are blank
blank-is-none : (r : Rec) → is_empty (fields r) ≡ is_blank r
unfolding is_blank
blank-is-none [] = refl
blank-is-none (f ∷ fs) = by (is_empty (clean f)) (is_empty (fields fs)) refl refl (blank-is-none fs)
  where
    by : (first more : Bool) → is_empty (clean f) ≡ first → is_empty (fields fs) ≡ more
        → is_empty (fields fs) ≡ is_blank fs → is_empty (fields (f ∷ fs)) ≡ is_blank (f ∷ fs)
    by true true e k same = rw (e, k, sym same ∙ k) refl
    by true false e k same = rw (e, k, sym same ∙ k) refl
    by false more e k same = rw e refl

ends-by : (fs : List Field) → same_fields fs [] ≡ is_empty fs
ends-by [] = refl
ends-by (f ∷ fs) = refl

-- the fields that count, of two fields and of those of the others that count
first-two : Field → Field → List Field → List Field
first-two x y more =
    let rest = if is_empty y && is_empty more then [] else y ∷ more in
    if is_empty x && is_empty rest then [] else x ∷ rest

same-two : (x y : Field) (more : List Field) (a b : Field) → is_empty b ≡ false
    → same_fields (first-two x y more) (a ∷ b ∷ []) ≡ ((bytes_eq x a && bytes_eq y b) && is_empty more)
unfolding first-two
same-two x y more a [] h = cc h
same-two [] [] [] a (c ∷ cs) h = grind arith
same-two [] [] (f ∷ fs) a (c ∷ cs) h = grind arith
same-two (d ∷ ds) [] [] a (c ∷ cs) h = grind arith
same-two (d ∷ ds) [] (f ∷ fs) a (c ∷ cs) h = grind arith
same-two x (e ∷ es) more a (c ∷ cs) h = grind (arith, ends-by)

pub two_fields : (r : Rec) (a b : Field) → is_empty b ≡ false
    → same_fields (fields r) (a ∷ b ∷ []) ≡ ((bytes_eq (cell 0 r) a && bytes_eq (cell 1 r) b) && is_blank (drop 2 r))
unfolding first-two is_blank field_at
two_fields [] a [] h = cc h
two_fields [] a (c ∷ cs) h = grind (arith, clean-nil)
two_fields (f ∷ []) a [] h = cc h
two_fields (f ∷ []) a (c ∷ cs) h = grind (arith, clean-nil)
two_fields (f ∷ g ∷ rest) a b h =
    same-two (clean f) (clean g) (fields rest) a b h ∙ rw (blank-is-none rest) refl
