-- Sets of numbers as rising lists.
use Rattle.std.proofs.Common.{◌≡◌, ◌⊎◌, ◌<◌, ◌≤◌, ◌+◌, inl, inr, ℕ, zero, suc, List, [], ◌∷◌, true, false, sym, arith, rules, tests, length, get_or}
use Rattle.std.specs.Prelude.{◌==◌, Result, Ok, Err, is_ok}
use Rattle.std.specs.List.{list_any}
use Rattle.std.specs.List.Sorted.{IsBinarySearchResult}
use Rattle.std.specs.Ordering.{nat_cmp}
use Rattle.std.proofs.lemmas.List.Elements.{All-from_get_or}
use Rattle.std.proofs.lemmas.List.Folds.{list_any_at, list_any_none}
use Rattle.std.proofs.lemmas.List.Sorted.{searched}
use Rattle.std.proofs.lemmas.Bool.{cases_lt}
use Rattle.pb_election.specs.Instance.{IsSet}

-- a set rises
set-above : (low high : ℕ) (xs : List ℕ) → IsSet low high xs → (j : ℕ) → j < length xs → low ≤ get_or xs j 0
set-above low high [] set j h = omega (arith, h)
set-above low high (x ∷ xs) set zero h = set.0
set-above low high (x ∷ xs) set (suc j) h =
    let behind = set-above (x + 1) high xs set.2 j (omega (arith, h)) in
    omega (arith, set.0, behind)

pub set-rises : (low high : ℕ) (xs : List ℕ) → IsSet low high xs → (i j : ℕ) → i ≤ j → j < length xs
    → get_or xs i 0 ≤ get_or xs j 0
set-rises low high [] set i j le h = omega (arith, h)
set-rises low high (x ∷ xs) set zero zero le h = omega arith
set-rises low high (x ∷ xs) set zero (suc j) le h = grind (arith, set-above)
set-rises low high (x ∷ xs) set (suc i) zero le h = omega (arith, le)
set-rises low high (x ∷ xs) set (suc i) (suc j) le h =
    set-rises (x + 1) high xs set.2 i j (omega (arith, le)) (omega (arith, h))

pub is-itself : (n : ℕ) → (n == n) ≡ true
is-itself n = search (rules, tests)

is-other : (m n : ℕ) → (m < n) ⊎ (n < m) → (m == n) ≡ false
is-other m n (inl h) = search (rules, tests)
is-other m n (inr h) = search (rules, tests)

-- a set of numbers from low on is one of numbers from less on
pub set-lower : (low lower high : ℕ) (xs : List ℕ) → lower ≤ low → IsSet low high xs → IsSet lower high xs
set-lower low lower high [] l h = tt
set-lower low lower high (x ∷ xs) l h = (omega (arith, h.0), h.1, h.2)

-- a binary search tells whether a set has a number
pub is_ok-searched : (low high : ℕ) (xs : List ℕ) → IsSet low high xs → (x : ℕ) (r : Result ℕ ℕ)
    → IsBinarySearchResult (λ y. nat_cmp y x) xs r
    → is_ok r ≡ list_any (λ k. k == x) xs
is_ok-searched low high xs set x (Ok i) found =
    let at = searched xs x (Ok i) found (set-rises low high xs set) in
    sym (list_any_at (λ k. k == x) xs i 0 at.0 (rw at.1 (is-itself x)))
is_ok-searched low high xs set x (Err i) found =
    let at = searched xs x (Err i) found (set-rises low high xs set) in
    sym (list_any_none (λ k. k == x) xs
    (All-from_get_or (λ k. (k == x) ≡ false) xs 0
    (λ k h. is-other (get_or xs k 0) x (by k h (cases_lt k i) at.1 at.2))))
  where
    by : (k : ℕ) → k < length xs → (k < i) ⊎ (i ≤ k) → ((j : ℕ) → j < i → get_or xs j 0 < x)
        → ((j : ℕ) → i ≤ j → j < length xs → x < get_or xs j 0)
        → (get_or xs k 0 < x) ⊎ (x < get_or xs k 0)
    by k h (inl before) below above = inl (below k before)
    by k h (inr behind) below above = inr (above k behind h)
