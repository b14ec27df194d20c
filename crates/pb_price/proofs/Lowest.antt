-- The first of the numbers that pass a test is the lowest of which something is so.
use Rattle.std.proofs.Common.{◌≡◌, ℕ, zero, suc, ◌+◌, ◌<◌, ◌≤◌, Bool, true, false, List, [], ◌∷◌, ◌++◌, refl, sym, ◌∙◌, ap, inl, inr, arith}
use Rattle.std.specs.Prelude.{◌↔◌, ◌⊎◌, ◌&&◌, Some, filter, flat_map, map, not, slice_get}
use Rattle.std.specs.List.{range_with_len}
use Rattle.std.proofs.lemmas.Bool.{and_from, and_parts, cases_eq, not-true}
use Rattle.pb_election.specs.Instance.{Instance, IsVoter, projects, voters}
use Rattle.pb_election.specs.Outcome.{has}
use Rattle.pb_cohesion.specs.Outcome.{IsFunded, IsUnfunded, funded, unfunded}
use Rattle.pb_cohesion.proofs.Culprits.{filter-filter}
use Rattle.pb_price.specs.FirstFalse.{IsLowest, IsLowestPair}

-- the first element of two lists joined, and of a list that is mapped
pub first-of-two : {A : Type 0} (xs ys : List A) (a : A) → slice_get (xs ++ ys) 0 ≡ Some a
    → (slice_get xs 0 ≡ Some a) ⊎ ((xs ≡ []) × (slice_get ys 0 ≡ Some a))
first-of-two [] ys a h = inr (refl, h)
first-of-two (x ∷ xs) ys a h = inl h

pub first-of-mapped : {A B : Type 0} (g : A → B) (xs : List A) (b : B) → slice_get (map g xs) 0 ≡ Some b
    → (a : A) × (slice_get xs 0 ≡ Some a) × (g a ≡ b)
first-of-mapped g [] b h = cc
first-of-mapped g (x ∷ xs) b h = (x, refl, cc)

-- the first number of a range that passes a test
first-passing : (q : ℕ → Bool) (n a j : ℕ) → slice_get (filter q (range_with_len a n)) 0 ≡ Some j
    → (a ≤ j) × (j < a + n) × (q j ≡ true) × ((k : ℕ) → a ≤ k → k < j → q k ≡ false)
first-passing q zero a j h = cc
first-passing q (suc n) a j h = grind (arith, first-passing q n (a + 1) j)

-- where each number of a range gives a list, the first element of all is that of the first list that isn't empty
pub first-of-lists : {A : Type 0} (g : ℕ → List A) (n a : ℕ) (x : A)
    → slice_get (flat_map g (range_with_len a n)) 0 ≡ Some x
    → (j : ℕ) × (a ≤ j) × (j < a + n) × (slice_get (g j) 0 ≡ Some x) × ((k : ℕ) → a ≤ k → k < j → g k ≡ [])
first-of-lists g zero a x h = cc
first-of-lists g (suc n) a x h = elim (first-of-two (g a) (flat_map g (range_with_len (a + 1) n)) x h) [
  | inl here ↦ (a, omega arith, omega arith, here, λ k low high. absurd (omega arith))
  | inr later ↦
      let found = first-of-lists g n (a + 1) x later.1 in
      let high : found.0 < a + 1 + n = found.2 in (
        found.0,
        omega arith,
        omega arith,
        found.3,
        λ k from below. elim (cases_eq k a)
            [ inl here ↦ ap g here ∙ later.0 | inr after ↦ found.4 k (omega arith) below ],
      )
]

-- where a test of the numbers from 1 passes those of which P holds, the first that passes is the lowest of these
pub lowest-of : (q : ℕ → Bool) (n : ℕ) (P : ℕ → Type 0)
    → ((k : ℕ) → ((1 ≤ k) × (k ≤ n) × (q k ≡ true)) ↔ P k) → (j : ℕ)
    → slice_get (filter q (range_with_len 1 n)) 0 ≡ Some j → IsLowest P j
lowest-of q n P says j h = grind (arith, first-passing)

-- the same of the voters, and of the unfunded and the funded projects
pub lowest-voter : (e : Instance) (q : ℕ → Bool) (P : ℕ → Type 0) → ((i : ℕ) → (q i ≡ true) ↔ P i) → (i : ℕ)
    → slice_get (filter q (range_with_len 1 (voters e))) 0 ≡ Some i → IsLowest (λ j. IsVoter e j × P j) i
lowest-voter e q P says =
    lowest-of q (voters e) (λ j. IsVoter e j × P j)
    (λ j. (λ h. ((h.0, h.1), (says j).0 h.2), λ h. (h.0.0, h.0.1, (says j).1 h.1)))

pub lowest-unfunded : (e : Instance) (w : List Bool) (q : ℕ → Bool) (P : ℕ → Type 0)
    → ((c : ℕ) → (q c ≡ true) ↔ P c) → (c : ℕ) → slice_get (filter q (unfunded e w)) 0 ≡ Some c
    → IsLowest (λ k. IsUnfunded e w k × P k) c
lowest-unfunded e w q P says c h =
    lowest-of (λ k. not (has w k) && q k) (projects e) (λ k. IsUnfunded e w k × P k)
    (λ k. (
      λ t. let both = and_parts (not (has w k)) (q k) t.2 in (((t.0, t.1), not-true _ both.0), (says k).0 both.1),
      λ t. (t.0.0.0, t.0.0.1, and_from (not (has w k)) (q k) (ap not t.0.1) ((says k).1 t.1)),
    )) c (ap (λ xs. slice_get xs 0) (sym (filter-filter q (λ k. not (has w k)) (range_with_len 1 (projects e)))) ∙ h)

pub lowest-funded : (e : Instance) (w : List Bool) (q : ℕ → Bool) (P : ℕ → Type 0)
    → ((c : ℕ) → (q c ≡ true) ↔ P c) → (c : ℕ) → slice_get (filter q (funded e w)) 0 ≡ Some c
    → IsLowest (λ k. IsFunded e w k × P k) c
lowest-funded e w q P says c h =
    lowest-of (λ k. has w k && q k) (projects e) (λ k. IsFunded e w k × P k)
    (λ k. (
      λ t. let both = and_parts (has w k) (q k) t.2 in (((t.0, t.1), both.0), (says k).0 both.1),
      λ t. (t.0.0.0, t.0.0.1, and_from (has w k) (q k) t.0.1 ((says k).1 t.1)),
    )) c (ap (λ xs. slice_get xs 0) (sym (filter-filter q (has w) (range_with_len 1 (projects e)))) ∙ h)

-- there is at most one lowest number, and one lowest pair
pub lowest-same : (P : ℕ → Type 0) (a b : ℕ) → IsLowest P a → IsLowest P b → a ≡ b
lowest-same P a b h k = grind arith

pub lowest-pair-same : (P : ℕ → ℕ → Type 0) (i j c d : ℕ) → IsLowestPair P i c → IsLowestPair P j d
    → (i ≡ j) × (c ≡ d)
lowest-pair-same P i j c d h k = grind arith
