-- Rising lists of numbers, and how many of their numbers are at most so much.
use Rattle.std.proofs.Common.{◌≡◌, ℕ, zero, suc, ◌+◌, ◌<◌, ◌≤◌, true, false, List, [], ◌∷◌, length, get_or, refl, inl, inr, arith}
use Rattle.std.specs.Prelude.{⊤, nat_le, sum_by}
use Rattle.std.proofs.lemmas.Bool.{cases_Bool, le-leb, leb-true, leb-false, lt-leb}
use Rattle.std.proofs.lemmas.List.Sums.{sum_by-cons}
use Rattle.pb_cohesion.proofs.Sums.{where_passes}

-- the numbers rise, from low on
abbrev pub Rises : ℕ → List ℕ → Type 0
Rises low [] = ⊤
Rises low (x ∷ xs) = (low ≤ x) × Rises x xs

pub rises-from : (low from : ℕ) (xs : List ℕ) → low ≤ from → Rises from xs → Rises low xs
rises-from low from [] le h = tt
rises-from low from (x ∷ xs) le h = let here : from ≤ x = h.0 in (omega arith, h.1)

-- how many numbers are at most g
abbrev pub at_most : ℕ → List ℕ → ℕ
at_most g xs = sum_by (λ x. where_passes (nat_le x g) 1) xs

-- each number is at least low
pub rises-at : (low : ℕ) (xs : List ℕ) (k : ℕ) → Rises low xs → k < length xs → low ≤ get_or xs k 0
rises-at low [] k h b = absurd (omega arith)
rises-at low (x ∷ xs) zero h b = h.0
rises-at low (x ∷ xs) (suc k) h b =
    let here : low ≤ x = h.0 in
    let rest : x ≤ get_or xs k 0 = rises-at x xs k h.1 (omega arith) in
    omega arith

pub none-at_most : (g low : ℕ) (xs : List ℕ) → Rises low xs → g < low → at_most g xs ≡ 0
none-at_most g low [] h above = refl
none-at_most g low (x ∷ xs) h above =
    let here : low ≤ x = h.0 in
    let rest : at_most g xs ≡ 0 = none-at_most g x xs h.1 (omega arith) in
    let not_here : nat_le x g ≡ false = lt-leb x g (omega arith) in
    rw (sum_by-cons (λ y. where_passes (nat_le y g) 1) x xs, not_here, rest) refl

-- a number of at most g stands among the first that are
pub at_most-high : (g low : ℕ) (xs : List ℕ) (k : ℕ) → Rises low xs → k < length xs → get_or xs k 0 ≤ g
    → k < at_most g xs
at_most-high g low [] k h b le = absurd (omega arith)
at_most-high g low (x ∷ xs) zero h b le =
    let here : nat_le x g ≡ true = le-leb x g le in
    rw (sum_by-cons (λ y. where_passes (nat_le y g) 1) x xs, here) (omega arith)
at_most-high g low (x ∷ xs) (suc k) h b le =
    let from : x ≤ get_or xs k 0 = rises-at x xs k h.1 (omega arith) in
    let here : nat_le x g ≡ true = le-leb x g (omega arith) in
    let rest : k < at_most g xs = at_most-high g x xs k h.1 (omega arith) le in
    rw (sum_by-cons (λ y. where_passes (nat_le y g) 1) x xs, here) (omega arith)

-- and so many of the first are
pub at_most-low : (g low : ℕ) (xs : List ℕ) (k : ℕ) → Rises low xs → k < at_most g xs
    → (k < length xs) × (get_or xs k 0 ≤ g)
at_most-low g low [] k h b = absurd (omega arith)
at_most-low g low (x ∷ xs) k h b = elim (cases_Bool (nat_le x g)) [
  | inl yes' ↦ go k (leb-true x g yes') (one yes') b (λ j within. at_most-low g x xs j h.1 within)
  | inr no' ↦
      let above : g < x = leb-false x g no' in
      let none : at_most g xs ≡ 0 = none-at_most g x xs h.1 above in
      let all : at_most g (x ∷ xs) ≡ 0 = rw (sum_by-cons (λ y. where_passes (nat_le y g) 1) x xs, no', none) refl in
      absurd (omega arith)
]
  where
    one : nat_le x g ≡ true → at_most g (x ∷ xs) ≡ 1 + at_most g xs
    one yes' = rw (sum_by-cons (λ y. where_passes (nat_le y g) 1) x xs, yes') refl

    go : (j : ℕ) → x ≤ g → at_most g (x ∷ xs) ≡ 1 + at_most g xs → j < at_most g (x ∷ xs)
        → ((i : ℕ) → i < at_most g xs → (i < length xs) × (get_or xs i 0 ≤ g))
        → (j < length (x ∷ xs)) × (get_or (x ∷ xs) j 0 ≤ g)
    go zero le is within later = (omega arith, le)
    go (suc j) le is within later =
        let rest : (j < length xs) × (get_or xs j 0 ≤ g) = later j (omega arith) in
        (omega (arith, rest.0), rest.1)
