-- Sums and largest values of which one term changes.
use Rattle.std.proofs.Common.{◌≡◌, ℕ, zero, suc, ◌+◌, ◌*◌, ◌<◌, ◌≤◌, max, refl, ◌∙◌, ap, arith}
use Rattle.std.specs.Prelude.{sum_by}
use Rattle.std.specs.List.{range_with_len}
use Rattle.std.proofs.lemmas.Bool.{cases_eq}
use Rattle.std.proofs.lemmas.List.FromFn.{length-range_with_len}
use Rattle.std.proofs.lemmas.List.Sums.{sum_by-cons}
use Rattle.pb_cohesion.specs.Amounts.{largest_by}
use Rattle.pb_cohesion.proofs.Sums.{range-le, range-same, sum-const}

-- a term that becomes x more
pub sum-one-changed : (f g : ℕ → ℕ) (n a j x : ℕ) → a ≤ j → j < a + n → g j ≡ f j + x
    → ((i : ℕ) → (i ≡ j → ⊥) → g i ≡ f i) → sum_by g (range_with_len a n) ≡ sum_by f (range_with_len a n) + x
sum-one-changed f g zero a j x low high here other = absurd (omega arith)
sum-one-changed f g (suc n) a j x low high here other =
    grind (arith, cases_eq, range-same, sum_by-cons, sum-one-changed f g n (a + 1) j x)

-- a term that was 0 becomes x
pub sum-one-more : (f g : ℕ → ℕ) (n a j x : ℕ) → a ≤ j → j < a + n → f j ≡ 0 → g j ≡ x
    → ((i : ℕ) → (i ≡ j → ⊥) → g i ≡ f i) → sum_by g (range_with_len a n) ≡ sum_by f (range_with_len a n) + x
sum-one-more f g n a j x low high none here other =
    sum-one-changed f g n a j x low high (omega (arith, none, here)) other

-- the largest of equal terms
pub largest-same : (f g : ℕ → ℕ) (a n : ℕ) → ((j : ℕ) → a ≤ j → j < a + n → f j ≡ g j)
    → largest_by f (range_with_len a n) ≡ largest_by g (range_with_len a n)
largest-same f g a zero h = refl
largest-same f g a (suc n) h = grind (arith, largest-same f g (a + 1) n)

pub largest-one-more : (f g : ℕ → ℕ) (n a j x : ℕ) → a ≤ j → j < a + n → f j ≡ 0 → g j ≡ x
    → ((i : ℕ) → (i ≡ j → ⊥) → g i ≡ f i)
    → largest_by g (range_with_len a n) ≡ max (largest_by f (range_with_len a n)) x
largest-one-more f g zero a j x low high none here other = absurd (omega arith)
largest-one-more f g (suc n) a j x low high none here other =
    grind (arith, cases_eq, largest-same, largest-one-more f g n (a + 1) j x)

-- bounds
pub sum-most : (f : ℕ → ℕ) (m a n : ℕ) → ((j : ℕ) → f j ≤ m) → sum_by f (range_with_len a n) ≤ n * m
sum-most f m a n h =
    let below : sum_by f (range_with_len a n) ≤ sum_by (λ j. m) (range_with_len a n) =
    range-le f (λ j. m) a n (λ j low high. h j) in
    let is : sum_by (λ j. m) (range_with_len a n) ≡ n * m =
    sum-const m (range_with_len a n) ∙ ap (λ k. k * m) (length-range_with_len a n) in
    omega arith

pub largest-most : (f : ℕ → ℕ) (m a n : ℕ) → ((j : ℕ) → f j ≤ m) → largest_by f (range_with_len a n) ≤ m
largest-most f m a zero h = omega arith
largest-most f m a (suc n) h = grind (arith, largest-most f m (a + 1) n h)

pub largest-zero : (a n : ℕ) → largest_by (λ c. 0) (range_with_len a n) ≡ 0
largest-zero a zero = refl
largest-zero a (suc n) = grind (arith, largest-zero (a + 1) n)
