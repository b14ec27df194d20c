-- Signed weights as numbers: so often payments count, and what costs come to.
use Rattle.std.proofs.Common.{◌≡◌, ℕ, zero, suc, ◌+◌, ◌-◌, ◌*◌, ◌<◌, ◌≤◌, List, [], ◌∷◌, refl, ◌∙◌, ap, ◌⊎◌, inl, inr, arith}
use Rattle.std.specs.Prelude.{ℤ, pos, negsuc, neg_ℤ, ◌+ℤ◌, ◌-ℤ◌, ◌*ℤ◌, ◌≤ℤ◌, ◌↔◌, false, Bool, Option, Some, None, filter, sum_by}
use Rattle.std.specs.Option.{option_map_or}
use Rattle.std.proofs.lemmas.Bool.{cases_lt}
use Rattle.std.proofs.lemmas.Int.{ints}
use Rattle.std.proofs.lemmas.List.Sums.{sum_by-cons}
use Rattle.pb_election.specs.Instance.{Instance, cost_of}
use Rattle.pb_certificate.specs.Refutations.{Weights, row_of, weight}
use Rattle.pb_certificate.specs.declared.refutations.weighting.Role.{Role}
use Rattle.pb_certificate.specs.declared.refutations.weighting.Role.TheVariants.{Least, Most, Left}
use Rattle.pb_certificate.specs.declared.refutations.weighting.Weighting.{Weighting}
use Rattle.pb_cohesion.specs.Conditions.{sum_ℤ}
use Rattle.pb_cohesion.specs.Outcome.{funded}
use Rattle.pb_cohesion.specs.Refutations.{CostsDiffer, above, at_least, at_most, counts, has_role, is_least, is_most, positive_part, signed, signed_by, weighted_cost}
use Rattle.pb_cohesion.proofs.Amounts.{sub-is}
use Rattle.pb_cohesion.proofs.Sums.{sum-filter, where_passes}

-- an integer that isn't above 0 has nothing above it
part-none : (z : ℤ) → z ≤ℤ pos 0 → positive_part z ≡ 0
part-none (pos n) h = let low : n ≤ 0 = omega (arith, ints) in omega arith
part-none (negsuc n) h = refl

-- a difference has above 0 what the subtraction of numbers gives
part-sub : (a b : ℕ) → positive_part (pos a -ℤ pos b) ≡ a - b
part-sub a b = elim (cases_lt a b) [
  | inl below ↦ part-none (pos a -ℤ pos b) (omega (arith, ints)) ∙ omega arith
  | inr above' ↦ ap positive_part (sub-is a b (omega arith))
]

-- what an integer has above a number
pub part-above : (z : ℤ) (x : ℕ) → positive_part (z -ℤ pos x) ≡ positive_part z - x
part-above (pos a) x = part-sub a x
part-above (negsuc a) x = part-none (negsuc a -ℤ pos x) (omega (arith, ints)) ∙ omega arith

-- so often a payment counts, by the row of its project
pub counts-least : (k z : ℕ) → positive_part (pos k +ℤ pos z) ≡ z + k
counts-least k z = let sum : pos k +ℤ pos z ≡ pos (z + k) = omega (arith, ints) in ap positive_part sum

pub counts-most : (k z : ℕ) → positive_part (neg_ℤ (pos k) +ℤ pos z) ≡ z - k
counts-most k z =
    let difference : neg_ℤ (pos k) +ℤ pos z ≡ pos z -ℤ pos k = omega (arith, ints) in
    ap positive_part difference ∙ part-sub z k

pub counts-left : (z : ℕ) → positive_part (pos 0 +ℤ pos z) ≡ z
counts-left z = let sum : pos 0 +ℤ pos z ≡ pos z = omega (arith, ints) in ap positive_part sum

-- what payments count above a number
pub above-is : (r : Weights) (z : ℕ) (cs : List ℕ) (x : ℕ)
    → above r z cs x ≡ sum_by (λ c. positive_part (counts r z c) - x) cs
above-is r z cs x = λ k. sum_by (λ c. part-above (counts r z c) x k) cs

-- a product with an integer below 0
minus-times : (a k : ℕ) → neg_ℤ (pos a) *ℤ pos k ≡ neg_ℤ (pos (a * k))
minus-times zero k = omega (arith, ints)
minus-times (suc a) k = refl

-- what signed weights come to with one more project, by its role: s is what they come to for the others, whose costs are
-- l for those with a row `least`, and m for those with a row `most`
role-costs : (role : Role) (x k : ℕ) (s : ℤ) (l m : ℕ) → s +ℤ pos m ≡ pos l
    → (signed_by role x *ℤ pos k +ℤ s) +ℤ pos (where_passes (is_most role) (x * k) + m)
    ≡ pos (where_passes (is_least role) (x * k) + l)
role-costs Least x k s l m is = omega (arith, ints, is)
role-costs Most x k s l m is = omega (arith, ints, is, minus-times x k)
role-costs Left x k s l m is = omega (arith, ints, is)

row-costs : (row : Option Weighting) (k : ℕ) (s : ℤ) (l m : ℕ) → s +ℤ pos m ≡ pos l
    → (option_map_or (λ y. signed_by y.role y.weight) row (pos 0) *ℤ pos k +ℤ s)
    +ℤ pos (where_passes (option_map_or (λ y. is_most y.role) row false) (option_map_or (λ y. y.weight) row 0 * k) + m)
    ≡ pos (where_passes (option_map_or (λ y. is_least y.role) row false) (option_map_or (λ y. y.weight) row 0 * k) + l)
row-costs None k s l m is = omega (arith, ints, is)
row-costs (Some y) k s l m is = role-costs y.role y.weight k s l m is

costs-by : (Role → Bool) → Instance → Weights → ℕ → ℕ
costs-by is e r c = where_passes (has_role is r c) (weight r c * cost_of e c)

signed-terms : (e : Instance) (r : Weights) (xs : List ℕ)
    → sum_ℤ (λ c. signed r c *ℤ pos (cost_of e c)) xs +ℤ pos (sum_by (costs-by is_most e r) xs)
    ≡ pos (sum_by (costs-by is_least e r) xs)
unfolding costs-by
signed-terms e r [] = omega (arith, ints)
signed-terms e r (x ∷ xs) =
    rw (sum_by-cons (costs-by is_most e r) x xs, sum_by-cons (costs-by is_least e r) x xs)
    (row-costs (row_of r x) (cost_of e x) (sum_ℤ (λ c. signed r c *ℤ pos (cost_of e c)) xs)
    (sum_by (costs-by is_least e r) xs) (sum_by (costs-by is_most e r) xs) (signed-terms e r xs))

signed-costs : (e : Instance) (r : Weights) (xs : List ℕ)
    → sum_ℤ (λ c. signed r c *ℤ pos (cost_of e c)) xs +ℤ pos (weighted_cost e r (filter (has_role is_most r) xs))
    ≡ pos (weighted_cost e r (filter (has_role is_least r) xs))
unfolding costs-by
signed-costs e r xs =
    rw (
      sum-filter (λ c. weight r c * cost_of e c) (has_role is_most r) xs,
      sum-filter (λ c. weight r c * cost_of e c) (has_role is_least r) xs,
    ) (signed-terms e r xs)

-- The costs differ where what is paid at least is more than what is paid and left at most, or as much where Cover has a
-- weight.
abbrev pub AmountsDiffer : ℕ → ℕ → ℕ → Type 0
AmountsDiffer most least cover = (most < least) ⊎ ((most ≡ least) × (0 < cover))

pub costs-iff : (e : Instance) (w : List Bool) (r : Weights)
    → CostsDiffer e w r ↔ AmountsDiffer (at_most e w r) (at_least e w r) r.cover
costs-iff e w r =
    let is = signed-costs e r (funded e w) in (
      λ h. elim h [
        | inl more ↦ inl (omega (arith, ints, is, more))
        | inr same ↦ inr (let alike = same.0 in omega (arith, ints, is, alike), same.1)
      ],
      λ h. elim h [
        | inl more ↦ inl (omega (arith, ints, is, more))
        | inr same ↦ inr (let alike = same.0 in omega (arith, ints, is, alike), same.1)
      ],
    )
