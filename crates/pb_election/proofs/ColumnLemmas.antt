-- Where columns of a name stand, and how many there are.
use Rattle.std.proofs.Common.{◌≡◌, ◌≤◌, ◌∙◌, ◌+◌, ◌-◌, ℕ, suc, [], ◌∷◌, refl, sym, ap, arith, add-one, inl, inr, Bool, true, false, Some, None, drop}
use Rattle.std.specs.Prelude.{◌==◌, count_by, if◌then◌else◌, is_none, is_some, nat_lt}
use Rattle.std.specs.List.{position_from}
use Rattle.std.proofs.lemmas.Bool.{cases_Bool}
use Rattle.std.proofs.lemmas.Bool.Decides.{nat_tests}
use Rattle.std.proofs.lemmas.List.Sums.{sum_by-append}
use Rattle.csv.specs.Records.{field_at}
use Rattle.pb_records.specs.Records.{Field, Rec}
use Rattle.pb_records.proofs.Csv.{drop-at, field-none}

count-cons : (p : Field → Bool) (x : Field) (xs : Rec) → count_by p (x ∷ xs) ≡ count_by p (x ∷ []) + count_by p xs
count-cons p x xs = sum_by-append (λ y. if p y then 1 else 0) (x ∷ []) xs

-- the field at the place is the column, or the search goes on behind it
pub column-here : (p : Field → Bool) (fs : Rec) (i : ℕ) (f : Field) → field_at fs i ≡ Some f → p f ≡ true
    → position_from p i (drop i fs) ≡ Some i
column-here p fs i f e h = rw (drop-at fs i f e, h) refl

pub column-behind : (p : Field → Bool) (fs : Rec) (i : ℕ) (f : Field) → field_at fs i ≡ Some f → p f ≡ false
    → position_from p i (drop i fs) ≡ position_from p (i + 1) (drop (i + 1) fs)
column-behind p fs i f e h = rw (add-one i) (rw (drop-at fs i f e, h, add-one i) refl)

pub column-none : (p : Field → Bool) (fs : Rec) (i : ℕ) → field_at fs i ≡ None → position_from p i (drop i fs) ≡ None
column-none p fs i e = rw (field-none fs i e) refl

-- a column is found exactly where there is one
some-is : (p : Field → Bool) (n : ℕ) (xs : Rec) → is_some (position_from p n xs) ≡ nat_lt 0 (count_by p xs)
some-is p n [] = refl
some-is p n (x ∷ xs) = grind (arith, cases_Bool, count-cons, nat_tests, some-is p (n + 1) xs)

pub missing-is : (p : Field → Bool) (n : ℕ) (xs : Rec) → is_none (position_from p n xs) ≡ (count_by p xs == 0)
missing-is p n xs = grind (arith, some-is, nat_tests)

-- a column is repeated exactly where one is found behind the first
pub repeated-is : (p : Field → Bool) (n k : ℕ) (xs : Rec) → position_from p n xs ≡ Some k
    → (n ≤ k) × (is_some (position_from p (k + 1) (drop (k + 1 - n) xs)) ≡ nat_lt 1 (count_by p xs))
repeated-is p n k [] e = cc e
repeated-is p n k (x ∷ xs) e =
    elim (cases_Bool (p x)) [
      | inl h ↦
          let here : n ≡ k = cc (rw h at e) in
          let d : k + 1 - n ≡ 1 = omega arith in
          let one : count_by p (x ∷ []) ≡ 1 = rw h refl in
          let behind : is_some (position_from p (k + 1) (drop (k + 1 - n) (x ∷ xs)))
          ≡ is_some (position_from p (k + 1) xs) = rw d refl in (
            omega arith,
            behind ∙ some-is p (k + 1) xs
                ∙ more (count_by p (x ∷ xs)) (count_by p xs) (omega (arith, count-cons p x xs, one)),
          )
      | inr h ↦
          let rest = repeated-is p (n + 1) k xs (rw h at e) in
          let d : k + 1 - n ≡ suc (k + 1 - (n + 1)) = omega (arith, rest.0) in
          let none : count_by p (x ∷ []) ≡ 0 = rw h refl in
          let same : count_by p (x ∷ xs) ≡ count_by p xs = omega (arith, count-cons p x xs, none) in
          let on : is_some (position_from p (k + 1) (drop (k + 1 - n) (x ∷ xs)))
          ≡ is_some (position_from p (k + 1) (drop (k + 1 - (n + 1)) xs)) = rw d refl in
          (omega (arith, rest.0), on ∙ rest.1 ∙ ap (λ m. nat_lt 1 m) (sym same))
    ]
  where
    more : (m n : ℕ) → m ≡ 1 + n → nat_lt 0 n ≡ nat_lt 1 m
    more m n e = grind (arith, nat_tests)

-- no column is found where none stands
pub none-repeated : (p : Field → Bool) (xs : Rec) → position_from p 0 xs ≡ None → nat_lt 1 (count_by p xs) ≡ false
none-repeated p xs e = few (count_by p xs) (sym (missing-is p 0 xs) ∙ rw e refl)
  where
    few : (n : ℕ) → (n == 0) ≡ true → nat_lt 1 n ≡ false
    few n h = grind (arith, nat_tests)

-- the same, with the search beginning at the first field
pub repeated-all : (p : Field → Bool) (k : ℕ) (xs : Rec) → position_from p 0 xs ≡ Some k
    → is_some (position_from p (k + 1) (drop (k + 1) xs)) ≡ nat_lt 1 (count_by p xs)
repeated-all p k xs e =
    let d : k + 1 - 0 ≡ k + 1 = omega arith in
    rw d at (repeated-is p 0 k xs e).1
