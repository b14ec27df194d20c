-- The voters in the order of what they got, and those of them that support a project.
use Rattle.std.proofs.Common.{◌≡◌, ℕ, suc, ◌+◌, ◌<◌, ◌≤◌, Bool, true, false, cond, List, [], ◌∷◌, ◌++◌, length, get_or, refl, sym, ◌∙◌, ap, inl, inr, arith}
use Rattle.std.specs.Prelude.{sum_by}
use Rattle.std.specs.List.{range_with_len}
use Rattle.std.specs.List.Sorted.{IsNonDecreasingBy}
use Rattle.std.proofs.lemmas.Bool.{cases_Bool}
use Rattle.std.proofs.lemmas.List.Sorted.{sum_by-IsPermutation}
use Rattle.std.proofs.lemmas.List.Sums.{sum_by-cons}
use mathlib.Core.List.{map-append}
use Rattle.pb_records.proofs.Lists.{sum-mapped}
use Rattle.pb_election.specs.Instance.{Instance, all_voters, approves, supporters, voters}
use Rattle.pb_election.specs.Outcome.{has}
use Rattle.pb_certificate.specs.declared.violations.measure.Measure.{Measure}
use Rattle.pb_cohesion.specs.Inside.Counting.{AreByGot, counts_for, gots, with_got}
use Rattle.pb_cohesion.specs.Short.{got}
use Rattle.pb_cohesion.proofs.Firsts.{range-next}
use Rattle.pb_cohesion.proofs.Rising.{Rises, rises-from}
use Rattle.pb_cohesion.proofs.Sums.{range-same, sum-filter, where_passes}

-- what supporters got rises in the order of what voters got
pub gots-rise : (e : Instance) (w : List Bool) (c low : ℕ) (order : List (ℕ × ℕ)) → IsNonDecreasingBy (λ one. one.0) order
    → ((k : ℕ) (d : ℕ × ℕ) → k < length order → low ≤ (get_or order k d).0) → Rises low (gots e w c order)
gots-rise e w c low [] rising from = tt
gots-rise e w c low (one ∷ rest) rising from =
    let here : low ≤ one.0 = from 0 one (omega arith) in
    let later : Rises one.0 (gots e w c rest) = gots-rise e w c one.0 rest
    (λ i j d le within. rising (suc i) (suc j) d (omega arith) (omega arith))
    (λ k d within. rising 0 (suc k) d (omega arith) (omega arith)) in
    elim (cases_Bool (counts_for e w one.1 c)) [
      | inl yes' ↦ rw yes' (here, later)
      | inr no' ↦ rw no' (rises-from low one.0 (gots e w c rest) here later)
    ]

-- a sum over what supporters got is one over voters
gots-sum : (f : ℕ → ℕ) (e : Instance) (w : List Bool) (c : ℕ) (order : List (ℕ × ℕ))
    → sum_by f (gots e w c order) ≡ sum_by (λ one. where_passes (counts_for e w one.1 c) (f one.0)) order
gots-sum f e w c [] = refl
gots-sum f e w c (one ∷ rest) = elim (cases_Bool (counts_for e w one.1 c)) [
  | inl yes' ↦
      rw (
        sum_by-cons (λ (p : ℕ × ℕ). where_passes (counts_for e w p.1 c) (f p.0)) one rest,
        yes',
        sum_by-cons f one.0 (gots e w c rest),
      ) (omega (arith, gots-sum f e w c rest))
  | inr no' ↦
      rw (sum_by-cons (λ (p : ℕ × ℕ). where_passes (counts_for e w p.1 c) (f p.0)) one rest, no')
      (omega (arith, gots-sum f e w c rest))
]

-- which are the supporters of an unfunded project
pub supporters-sum : (f : ℕ → ℕ) (m : Measure) (e : Instance) (w : List Bool) (c : ℕ) (order : List (ℕ × ℕ))
    → AreByGot m e w order → has w c ≡ false
    → sum_by f (gots e w c order) ≡ sum_by (λ i. f (got m e w i)) (supporters e c)
supporters-sum f m e w c order by unfunded =
    gots-sum f e w c order
    ∙ sum_by-IsPermutation (λ (one : ℕ × ℕ). where_passes (counts_for e w one.1 c) (f one.0))
    (with_got m e w (all_voters e)) order by.all
    ∙ sum-mapped (λ (one : ℕ × ℕ). where_passes (counts_for e w one.1 c) (f one.0)) (λ i. (got m e w i, i)) (all_voters e)
    ∙ range-same (λ i. where_passes (counts_for e w i c) (f (got m e w i)))
    (λ i. where_passes (approves e i c) (f (got m e w i))) 1 (voters e) (λ i low high. same i)
    ∙ sym (sum-filter (λ i. f (got m e w i)) (λ i. approves e i c) (all_voters e))
  where
    same : (i : ℕ) → where_passes (counts_for e w i c) (f (got m e w i)) ≡ where_passes (approves e i c) (f (got m e w i))
    same i = elim (cases_Bool (approves e i c)) [ inl y ↦ rw (y, unfunded) refl | inr n ↦ rw n refl ]

-- and nobody counts for a funded one
pub funded-gots : (e : Instance) (w : List Bool) (c : ℕ) (order : List (ℕ × ℕ)) → has w c ≡ true
    → gots e w c order ≡ []
funded-gots e w c [] funded = refl
funded-gots e w c (one ∷ rest) funded = elim (cases_Bool (approves e one.1 c)) [
  | inl y ↦ rw (y, funded) (funded-gots e w c rest funded)
  | inr n ↦ rw n (funded-gots e w c rest funded)
]

-- what supporters got with one more voter
pub gots-next : (e : Instance) (w : List Bool) (c : ℕ) (before : List (ℕ × ℕ)) (one : ℕ × ℕ)
    → gots e w c (before ++ one ∷ [])
    ≡ cond (counts_for e w one.1 c) (gots e w c before ++ one.0 ∷ []) (gots e w c before)
gots-next e w c [] one = elim (cases_Bool (counts_for e w one.1 c)) [ inl y ↦ rw y refl | inr n ↦ rw n refl ]
gots-next e w c (p ∷ before) one = elim (cases_Bool (counts_for e w p.1 c)) [
  | inl y ↦ rw (y, gots-next e w c before one) (pushed (counts_for e w one.1 c) p.0 (gots e w c before) one.0)
  | inr n ↦ rw (n, gots-next e w c before one) refl
]
  where
    pushed : (b : Bool) (x : ℕ) (xs : List ℕ) (y : ℕ) → x ∷ cond b (xs ++ y ∷ []) xs ≡ cond b ((x ∷ xs) ++ y ∷ []) (x ∷ xs)
    pushed true x xs y = refl
    pushed false x xs y = refl

pub gots-few : (e : Instance) (w : List Bool) (c : ℕ) (order : List (ℕ × ℕ)) → length (gots e w c order) ≤ length order
gots-few e w c [] = omega arith
gots-few e w c (one ∷ rest) =
    let less : length (gots e w c rest) ≤ length rest = gots-few e w c rest in
    elim (cases_Bool (counts_for e w one.1 c)) [ inl y ↦ rw y (omega arith) | inr n ↦ rw n (omega arith) ]

-- one more voter behind what it got
pub with_got-next : (m : Measure) (e : Instance) (w : List Bool) (k : ℕ)
    → with_got m e w (range_with_len 1 (k + 1))
    ≡ with_got m e w (range_with_len 1 k) ++ (got m e w (k + 1), k + 1) ∷ []
with_got-next m e w k =
    ap (with_got m e w) (range-next k 1)
    ∙ map-append (λ i. (got m e w i, i)) (range_with_len 1 k) ((1 + k) ∷ [])
    ∙ ap (λ i. with_got m e w (range_with_len 1 k) ++ (got m e w i, i) ∷ []) (next k)
  where
    next : (n : ℕ) → 1 + n ≡ n + 1
    next n = omega arith
