-- A finding by two accounts of the same sums.
use Rattle.std.proofs.Common.{◌≡◌, ℕ, zero, suc, ◌+◌, ◌<◌, ◌≤◌, Bool, true, false, cond, List, ◌∷◌, refl, arith}
use Rattle.std.specs.Prelude.{ℤ, Option, Some, filter, slice_get}
use Rattle.std.specs.List.{range_with_len}
use Rattle.pb_price.specs.Findings.{comparison}
use Rattle.pb_price.specs.Inside.Noted.{IsFindingBy, IsFindingTo, IsShown, among}
use Rattle.pb_price.specs.declared.Comparison.{Comparison}
use Rattle.pb_price.specs.declared.Finding.{Finding}

-- the first number of a range that passes a test is one of the range
first-within : (q : ℕ → Bool) (n a x : ℕ) → Some x ≡ slice_get (filter q (range_with_len a n)) 0 → (a ≤ x) × (x < a + n)
first-within q zero a x h = cc
first-within q (suc n) a x h = go (q a) h (λ rest. first-within q n (a + 1) x rest)
  where
    go : (b : Bool)
        → Some x ≡ slice_get (cond b (a ∷ filter q (range_with_len (a + 1) n)) (filter q (range_with_len (a + 1) n))) 0
        → (Some x ≡ slice_get (filter q (range_with_len (a + 1) n)) 0 → (a + 1 ≤ x) × (x < (a + 1) + n))
        → (a ≤ x) × (x < a + suc n)
    go true is rest = let same : x ≡ a = cc in (omega arith, omega arith)
    go false is rest = let there = rest is in (omega (arith, there.0), omega (arith, there.1))

-- two accounts of the same sums
pub record Same (n : ℕ) (bound bound' : ℕ → ℕ) (amount amount' : ℕ → ℤ) : Type 0 where
  pub bounds : (x : ℕ) → 1 ≤ x → x ≤ n → bound x ≡ bound' x
  pub amounts : (x : ℕ) → 1 ≤ x → x ≤ n → amount x ≡ amount' x

same-at : (n : ℕ) (bound bound' : ℕ → ℕ) (amount amount' : ℕ → ℤ) (x : ℕ) → Same n bound bound' amount amount' → 1 ≤ x
    → x ≤ n → comparison bound amount x ≡ comparison bound' amount' x
same-at n bound bound' amount amount' x s low high = rw (s.bounds x low high, s.amounts x low high) refl

shown-as : (n : ℕ) (q r : ℕ → Bool) (bound bound' : ℕ → ℕ) (amount amount' : ℕ → ℤ) (o : Option ℕ)
    (s : Option Comparison) → Same n bound bound' amount amount'
    → o ≡ slice_get (filter q (range_with_len 1 n)) 0 → IsShown o (among n r) bound amount s
    → IsShown o (among n r) bound' amount' s
shown-as n q r bound bound' amount amount' o s same first h = grind (arith, first-within, same-at)

pub finding-as : (n : ℕ) (q r : ℕ → Bool) (culprits : List ℕ) (bound bound' : ℕ → ℕ) (amount amount' : ℕ → ℤ)
    (f : Finding) → IsFindingTo n q r bound amount f
    → filter q (range_with_len 1 n) ≡ culprits → Same n bound bound' amount amount'
    → IsFindingBy culprits n r bound' amount' f
finding-as n q r culprits bound bound' amount amount' f h is same = grind (arith, shown-as)
