-- Loops over all voters or all projects, which count from 1.
use Rattle.std.proofs.Common.{◌≡◌, ℕ, zero, suc, ◌+◌, ◌-◌, ◌<◌, ◌≤◌, Bool, true, false, List, [], ◌∷◌, ◌++◌, append-nil, length, get_or, take, ◌∙◌, ap, arith}
use Rattle.std.specs.Prelude.{Some, filter, flat_map, slice_get, sum_by}
use Rattle.std.specs.List.{range_with_len}
use Rattle.std.proofs.lemmas.List.Elements.{filter-append}
use Rattle.std.proofs.lemmas.List.FromFn.{get_or-range_with_len, length-range_with_len}
use Rattle.std.proofs.lemmas.List.Sums.{sum_by-append, sum_by_push}
use Rattle.pb_election.specs.Instance.{IsSet}
use Rattle.pb_cohesion.proofs.Firsts.{filter-first, lists-first, range-next, take-range}

-- the number at a place of a range that starts at 1
at-place : (n j : ℕ) → 1 ≤ j → j ≤ n → get_or (range_with_len 1 n) (j - 1) 0 ≡ j
at-place n j low high = get_or-range_with_len 1 n (j - 1) 0 (omega arith) ∙ (omega arith)

front : (n j : ℕ) → 1 ≤ j → j ≤ n + 1 → take (j - 1) (range_with_len 1 n) ≡ range_with_len 1 (j - 1)
front n j low high = take-range (j - 1) n 1 (omega arith)

within : (n j : ℕ) → 1 ≤ j → j ≤ n → j - 1 < length (range_with_len 1 n)
within n j low high = rw (length-range_with_len 1 n) (omega arith)

-- the first number that passes a test
pub range-first : (q : ℕ → Bool) (n j : ℕ) → filter q (range_with_len 1 (j - 1)) ≡ [] → 1 ≤ j → j ≤ n → q j ≡ true
    → slice_get (filter q (range_with_len 1 n)) 0 ≡ Some j
range-first q n j none low high pass =
    let none_in : filter q (take (j - 1) (range_with_len 1 n)) ≡ [] =
    ap (filter q) (front n j low (omega arith)) ∙ none in
    let pass_at : q (get_or (range_with_len 1 n) (j - 1) 0) ≡ true = ap q (at-place n j low high) ∙ pass in
    filter-first q (range_with_len 1 n) (j - 1) none_in (within n j low high) pass_at ∙ ap Some (at-place n j low high)

-- the same where each number gives a list
pub range-lists-first : {A : Type 0} (g : ℕ → List A) (n j : ℕ) (a : A) → flat_map g (range_with_len 1 (j - 1)) ≡ []
    → 1 ≤ j → j ≤ n → slice_get (g j) 0 ≡ Some a → slice_get (flat_map g (range_with_len 1 n)) 0 ≡ Some a
range-lists-first g n j a none low high found =
    let none_in : flat_map g (take (j - 1) (range_with_len 1 n)) ≡ [] =
    ap (flat_map g) (front n j low (omega arith)) ∙ none in
    let found_at : slice_get (g (get_or (range_with_len 1 n) (j - 1) 0)) 0 ≡ Some a =
    ap (λ k. slice_get (g k) 0) (at-place n j low high) ∙ found in
    lists-first g (range_with_len 1 n) (j - 1) a none_in (within n j low high) found_at

-- a sum over one number more
pub sum-next : (f : ℕ → ℕ) (k : ℕ)
    → sum_by f (range_with_len 1 (k + 1)) ≡ sum_by f (range_with_len 1 k) + f (k + 1)
sum-next f k = grind (arith, range-next, sum_by_push)

-- the numbers that pass a test, with one number more
pub filter-passing : (q : ℕ → Bool) (k : ℕ) → q (k + 1) ≡ true
    → filter q (range_with_len 1 (k + 1)) ≡ filter q (range_with_len 1 k) ++ ((k + 1) ∷ [])
filter-passing q k pass = grind (arith, range-next, filter-append)

pub filter-failing : (q : ℕ → Bool) (k : ℕ) → q (k + 1) ≡ false
    → filter q (range_with_len 1 (k + 1)) ≡ filter q (range_with_len 1 k)
filter-failing q k fail = grind (arith, range-next, filter-append, append-nil)

-- a sum over the numbers that pass a test
pub sum-passing : (f : ℕ → ℕ) (q : ℕ → Bool) (k : ℕ) → q (k + 1) ≡ true
    → sum_by f (filter q (range_with_len 1 (k + 1))) ≡ sum_by f (filter q (range_with_len 1 k)) + f (k + 1)
sum-passing f q k pass = grind (arith, range-next, filter-append, sum_by_push)

pub sum-failing : (f : ℕ → ℕ) (q : ℕ → Bool) (k : ℕ) → q (k + 1) ≡ false
    → sum_by f (filter q (range_with_len 1 (k + 1))) ≡ sum_by f (filter q (range_with_len 1 k))
sum-failing f q k fail = grind (arith, range-next, filter-append, sum_by-append)

-- an element of a set is between its bounds
pub set-at : (low high : ℕ) (t : List ℕ) (k : ℕ) → IsSet low high t → k < length t
    → (low ≤ get_or t k 0) × (get_or t k 0 ≤ high)
set-at low high [] k h b = absurd (omega arith)
set-at low high (x ∷ xs) zero h b = (h.0, h.1)
set-at low high (x ∷ xs) (suc k) h b =
    let rest : (x + 1 ≤ get_or xs k 0) × (get_or xs k 0 ≤ high) = set-at (x + 1) high xs k h.2 (omega arith) in
    (omega (arith, rest.0), rest.1)

-- a set has at most as many elements as there are numbers between its bounds
pub set-length : (low high : ℕ) (t : List ℕ) → IsSet low high t → length t ≤ high + 1 - low
set-length low high [] h = omega arith
set-length low high (x ∷ xs) h =
    let rest : length xs ≤ high + 1 - (x + 1) = set-length (x + 1) high xs h.2 in
    omega arith
