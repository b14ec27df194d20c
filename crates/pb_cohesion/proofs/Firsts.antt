-- The first element of a list that passes a test, as a loop finds it.
use Rattle.std.proofs.Common.{◌≡◌, ℕ, zero, suc, ◌+◌, ◌<◌, ◌≤◌, Bool, true, false, cond, List, [], ◌∷◌, ◌++◌, length, get_or, take, refl, ◌∙◌, ap, arith}
use Rattle.std.specs.Prelude.{Option, Some, None, filter, flat_map, map, slice_get}
use Rattle.std.specs.List.{range_with_len}
use Rattle.pb_records.proofs.Lists.{range-push}
use Rattle.pb_cohesion.proofs.Culprits.{append-nil, nil-append}

-- the first element of two lists joined is that of the first list, where this is not empty
pub first-left : {A : Type 0} (xs ys : List A) (a : A) → slice_get xs 0 ≡ Some a → slice_get (xs ++ ys) 0 ≡ Some a
first-left [] ys a h = cc
first-left (x ∷ xs) ys a h = h

pub first-right : {A : Type 0} (xs ys : List A) → xs ≡ [] → slice_get (xs ++ ys) 0 ≡ slice_get ys 0
first-right [] ys h = refl
first-right (x ∷ xs) ys h = cc

-- the first element of a list that is mapped
pub first-mapped : {A B : Type 0} (f : A → B) (xs : List A) (a : A) → slice_get xs 0 ≡ Some a
    → slice_get (map f xs) 0 ≡ Some (f a)
first-mapped f [] a h = cc
first-mapped f (x ∷ xs) a h = let same : x ≡ a = cc in ap (λ y. Some (f y)) same

-- what is nothing found is none
pub none-found : {A : Type 0} (o : Option A) → ((a : A) → o ≡ Some a → ⊥) → o ≡ None
none-found None h = refl
none-found (Some a) h = absurd (h a refl)

-- the element at which a loop stops
pub filter-first : (q : ℕ → Bool) (xs : List ℕ) (k : ℕ) → filter q (take k xs) ≡ [] → k < length xs
    → q (get_or xs k 0) ≡ true → slice_get (filter q xs) 0 ≡ Some (get_or xs k 0)
filter-first q [] k h within pass = absurd (omega arith)
filter-first q (x ∷ xs) zero h within pass = rw pass refl
filter-first q (x ∷ xs) (suc k) h within pass = go (q x) refl h (λ rest. filter-first q xs k rest (omega arith) pass)
  where
    go : (r : Bool) → q x ≡ r → cond r (x ∷ filter q (take k xs)) (filter q (take k xs)) ≡ []
        → (filter q (take k xs) ≡ [] → slice_get (filter q xs) 0 ≡ Some (get_or xs k 0))
        → slice_get (cond r (x ∷ filter q xs) (filter q xs)) 0 ≡ Some (get_or xs k 0)
    go true e none rest = cc
    go false e none rest = rest none

-- the same where each element gives a list
pub lists-first : {A : Type 0} (g : ℕ → List A) (xs : List ℕ) (k : ℕ) (a : A) → flat_map g (take k xs) ≡ []
    → k < length xs → slice_get (g (get_or xs k 0)) 0 ≡ Some a → slice_get (flat_map g xs) 0 ≡ Some a
lists-first g [] k a h within found = absurd (omega arith)
lists-first g (x ∷ xs) zero a h within found = first-left (g x) (flat_map g xs) a found
lists-first g (x ∷ xs) (suc k) a h within found =
    let parts : (g x ≡ []) × (flat_map g (take k xs) ≡ []) = append-nil (g x) (flat_map g (take k xs)) h in
    first-right (g x) (flat_map g xs) parts.0 ∙ lists-first g xs k a parts.1 (omega arith) found

lists-suc : {A : Type 0} (g : ℕ → List A) (xs : List ℕ) (k : ℕ) → flat_map g (take k xs) ≡ [] → k < length xs
    → g (get_or xs k 0) ≡ [] → flat_map g (take (suc k) xs) ≡ []
lists-suc g [] k h within none = absurd (omega arith)
lists-suc g (x ∷ xs) zero h within none = nil-append (g x) (flat_map g []) none refl
lists-suc g (x ∷ xs) (suc k) h within none =
    let parts : (g x ≡ []) × (flat_map g (take k xs) ≡ []) = append-nil (g x) (flat_map g (take k xs)) h in
    nil-append (g x) (flat_map g (take (suc k) xs)) parts.0 (lists-suc g xs k parts.1 (omega arith) none)

pub lists-more : {A : Type 0} (g : ℕ → List A) (xs : List ℕ) (k : ℕ) → flat_map g (take k xs) ≡ [] → k < length xs
    → g (get_or xs k 0) ≡ [] → flat_map g (take (k + 1) xs) ≡ []
lists-more g xs k h within none = grind (arith, lists-suc)

-- a list with no first element is empty
pub none-first : {A : Type 0} (xs : List A) → slice_get xs 0 ≡ None → xs ≡ []
none-first [] h = refl
none-first (x ∷ xs) h = cc

-- the front of a range
pub take-range : (k n a : ℕ) → k ≤ n → take k (range_with_len a n) ≡ range_with_len a k
take-range zero n a h = refl
take-range (suc k) zero a h = absurd (omega arith)
take-range (suc k) (suc n) a h = ap (λ xs. a ∷ xs) (take-range k n (a + 1) (omega arith))

-- a range with one more number
pub range-next : (n a : ℕ) → range_with_len a (n + 1) ≡ range_with_len a n ++ ((a + n) ∷ [])
range-next n a = let next : n + 1 ≡ suc n = omega arith in ap (λ m. range_with_len a m) next ∙ range-push a n
