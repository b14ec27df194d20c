-- Weights that refute stable prices leave none for the outcome.
use Rattle.std.proofs.Common.{◌≡◌, ℕ, ◌+◌, ◌-◌, ◌*◌, ◌<◌, ◌≤◌, Bool, true, false, List, min, refl, sym, ◌∙◌, ap, inl, inr, arith}
use Rattle.std.specs.Prelude.{pos, ◌+ℤ◌, ◌-ℤ◌, ◌&&◌, IsFalse, Option, filter, sum_by}
use Rattle.std.specs.Option.{option_map_or}
use Rattle.std.proofs.lemmas.Bool.{cases_Bool, cases_lt}
use Rattle.std.proofs.Math.Nat.{mul_comm, mul-le-mul_left}
use Rattle.pb_records.proofs.Each.{all-every}
use Rattle.pb_election.specs.Instance.{Instance, IsProject, IsVoter, all_projects, all_voters, approves, projects, supporters, voters}
use Rattle.pb_election.specs.Outcome.{has}
use Rattle.pb_certificate.specs.Prices.{Prices}
use Rattle.pb_certificate.specs.Refutations.{Weights, row_of, weight}
use Rattle.pb_certificate.specs.declared.refutations.weighting.Weighting.{Weighting}
use Rattle.pb_cohesion.specs.Amounts.{beta, pays, spent, top}
use Rattle.pb_cohesion.specs.Conditions.{C1, C2, C4, Cover}
use Rattle.pb_cohesion.specs.Groups.{gets}
use Rattle.pb_cohesion.specs.Outcome.{funded}
use Rattle.pb_cohesion.specs.Refutations.{NoStablePricesSupport, NoStablePricesWithCoverSupport, NothingRefutesStable, Refutes, RefutesStable, SupportsStable, above, counts, gain, has_role, is_least, is_most, least_cost, missed, most_cost, positive_part, signed_by, stable_gain}
use Rattle.pb_cohesion.proofs.Gains.{part-above}
use Rattle.pb_cohesion.proofs.Least.{counts-at-most, made-up}
use Rattle.pb_cohesion.proofs.Plain.{supporters-group}
use Rattle.pb_cohesion.proofs.Reaches.{pays-none, pays-wasted}
use Rattle.pb_cohesion.proofs.Refuting.{Takes, contradicts, contradicts_cover, funded-sum, none-counts, row-counts, taken-budgets, weighted-paid, weighted-within}
use Rattle.pb_cohesion.proofs.Sets.{largest-at}
use Rattle.pb_cohesion.proofs.Stable.{group-offers, most_ℕ}
use Rattle.pb_cohesion.proofs.Sums.{range-le, sum-add, sum-filter, sum-le, sum-mul, sum-same, where_passes}

-- How often a payment of x counts: what it counts above u, by so much at most, offers make up for.
row-offers : (row : Option Weighting) (z u d x o : ℕ)
    → positive_part (option_map_or (λ y. signed_by y.role y.weight) row (pos 0) +ℤ pos z) ≤ u + d → x ≤ o
    → z * x + where_passes (option_map_or (λ y. is_least y.role) row false) (option_map_or (λ y. y.weight) row 0 * x)
    ≤ u * x + o * d + where_passes (option_map_or (λ y. is_most y.role) row false) (option_map_or (λ y. y.weight) row 0 * x)
row-offers row z u d x o most within =
    let counts = row-counts row z (u + d) x most in
    let more : d * x ≤ d * o = mul-le-mul_left d within in
    omega (arith, counts, more)

-- no payment is more than what its voter can offer
pays-offer : (e : Instance) (p : Prices) (i c : ℕ) → IsProject e c → pays p i c ≤ most_ℕ e p i
pays-offer e p i c project =
    let most : pays p i c ≤ top e p i =
    largest-at (λ j. pays p i j) (projects e) 1 c project.0 (let high : c ≤ projects e = project.1 in omega arith) in
    omega arith

payment-offers : (e : Instance) (w : List Bool) (p : Prices) (r : Weights) (u i c : ℕ) → C1 e p → C4 e w p
    → IsVoter e i → IsProject e c
    → missed e w r i * pays p i c + where_passes (has w c && has_role is_least r c) (weight r c * pays p i c)
    ≤ u * pays p i c
    + where_passes (approves e i c && has w c) (most_ℕ e p i * positive_part (counts r (missed e w r i) c -ℤ pos u))
    + where_passes (has w c && has_role is_most r c) (weight r c * pays p i c)
payment-offers e w p r u i c approved none_wasted v project = elim (cases_Bool (has w c)) [
  | inr no' ↦
      let none = none-counts (has w c && has_role is_least r c) (has w c && has_role is_most r c) (missed e w r i) u
      (weight r c) (pays p i c) (pays-wasted e w p i c none_wasted v project no') in
      omega (arith, none)
  | inl yes' ↦
      elim (cases_Bool (approves e i c)) [
        | inr no' ↦
            let none = none-counts (has w c && has_role is_least r c) (has w c && has_role is_most r c)
            (missed e w r i) u (weight r c) (pays p i c) (pays-none e p i c approved v project no') in
            omega (arith, none)
        | inl approved_is ↦
            rw (yes', approved_is)
            (row-offers (row_of r c) (missed e w r i) u (positive_part (counts r (missed e w r i) c -ℤ pos u))
            (pays p i c) (most_ℕ e p i) (omega (arith, part-above (counts r (missed e w r i) c) u)) (pays-offer e p i c project))
      ]
]

-- all payments of a voter, whatever the number u
payments-offer : (e : Instance) (w : List Bool) (p : Prices) (r : Weights) (u i : ℕ) → C1 e p → C4 e w p → IsVoter e i
    → missed e w r i * spent e p i
    + sum_by (λ c. weight r c * pays p i c) (filter (has_role is_least r) (funded e w))
    ≤ u * spent e p i + most_ℕ e p i * above r (missed e w r i) (gets e w i) u
    + sum_by (λ c. weight r c * pays p i c) (filter (has_role is_most r) (funded e w))
payments-offer e w p r u i approved none_wasted v =
    let z : ℕ = missed e w r i in
    let over : ℕ → ℕ = λ c. most_ℕ e p i * positive_part (counts r z c -ℤ pos u) in
    let kept : ℕ → ℕ = λ c. where_passes (approves e i c && has w c) (over c) in
    let least : ℕ → ℕ = λ c. where_passes (has w c && has_role is_least r c) (weight r c * pays p i c) in
    let most : ℕ → ℕ = λ c. where_passes (has w c && has_role is_most r c) (weight r c * pays p i c) in
    let each : sum_by (λ c. z * pays p i c + least c) (all_projects e)
    ≤ sum_by (λ c. (u * pays p i c + kept c) + most c) (all_projects e) =
    range-le _ _ 1 (projects e)
    (λ c low high. payment-offers e w p r u i c approved none_wasted v (low, omega arith)) in
    let on_least : sum_by (λ c. z * pays p i c + least c) (all_projects e)
    ≡ z * spent e p i + sum_by least (all_projects e) =
    sum-add (λ c. z * pays p i c) least (all_projects e)
    ∙ ap (λ k. k + sum_by least (all_projects e)) (sum-mul z (pays p i) (all_projects e)) in
    let on_most : sum_by (λ c. (u * pays p i c + kept c) + most c) (all_projects e)
    ≡ sum_by (λ c. u * pays p i c + kept c) (all_projects e) + sum_by most (all_projects e) =
    sum-add (λ c. u * pays p i c + kept c) most (all_projects e) in
    let on_kept : sum_by (λ c. u * pays p i c + kept c) (all_projects e)
    ≡ u * spent e p i + sum_by kept (all_projects e) =
    sum-add (λ c. u * pays p i c) kept (all_projects e)
    ∙ ap (λ k. k + sum_by kept (all_projects e)) (sum-mul u (pays p i) (all_projects e)) in
    let on_above : sum_by kept (all_projects e) ≡ most_ℕ e p i * above r z (gets e w i) u =
    sym (sum-filter over (λ c. approves e i c && has w c) (all_projects e))
    ∙ sum-mul (most_ℕ e p i) (λ c. positive_part (counts r z c -ℤ pos u)) (gets e w i) in
    omega (
      arith,
      funded-sum e w (has_role is_least r) (λ c. weight r c * pays p i c),
      funded-sum e w (has_role is_most r) (λ c. weight r c * pays p i c),
    )

-- What is counted above the number that makes up for it, and what the voter spends, in numbers alone: s is spent of the
-- budget b, no more than o is left of it, and a is what is counted above.
budget-above : (z u g a o b s l m : ℕ) → z ≡ u + g → a ≤ u → b ≤ s + o → z * s + l ≤ u * s + o * a + m
    → z * b + l ≤ u * b + o * z + m
budget-above z u g a o b s l m is made left counts =
    let on_s : z * s ≡ u * s + g * s = ap (λ k. k * s) is ∙ omega arith in
    let on_b : z * b ≡ u * b + g * b = ap (λ k. k * b) is ∙ omega arith in
    let on_o : o * z ≡ o * u + g * o = ap (λ k. o * k) is ∙ omega arith in
    let offers : o * a ≤ o * u = mul-le-mul_left o made in
    let rest : g * b ≤ g * (s + o) = mul-le-mul_left g left in
    omega arith

budget-within : (z u g a o b s l m : ℕ) → u ≡ z + g → a ≤ z → s ≤ b → z * s + l ≤ u * s + o * a + m
    → z * b + l ≤ u * b + o * z + m
budget-within z u g a o b s l m is made within counts =
    let on_s : u * s ≡ z * s + g * s = ap (λ k. k * s) is ∙ omega arith in
    let on_b : u * b ≡ z * b + g * b = ap (λ k. k * b) is ∙ omega arith in
    let offers : o * a ≤ o * z = mul-le-mul_left o made in
    let rest : g * s ≤ g * b = mul-le-mul_left g within in
    omega arith

budget-counts : (z u a o b s l m : ℕ) → a ≤ min u z → s ≤ b → b ≤ s + o → z * s + l ≤ u * s + o * a + m
    → z * b + l ≤ u * b + o * z + m
budget-counts z u a o b s l m made within left counts = elim (cases_lt u z) [
  | inl below ↦ budget-above z u (z - u) a o b s l m (omega arith) (omega arith) left counts
  | inr above ↦ budget-within z u (u - z) a o b s l m (omega arith) (omega arith) within counts
]

-- so often the budget of a voter counts, beside what it can offer
voter-offers : (e : Instance) (w : List Bool) (p : Prices) (r : Weights) (i : ℕ) → C1 e p → C2 e p → C4 e w p
    → IsVoter e i
    → missed e w r i * beta p
    + sum_by (λ c. weight r c * pays p i c) (filter (has_role is_least r) (funded e w))
    ≤ stable_gain e w r i * beta p + most_ℕ e p i * missed e w r i
    + sum_by (λ c. weight r c * pays p i c) (filter (has_role is_most r) (funded e w))
voter-offers e w p r i approved within none_wasted v =
    budget-counts (missed e w r i) (stable_gain e w r i)
    (above r (missed e w r i) (gets e w i) (stable_gain e w r i)) (most_ℕ e p i) (beta p) (spent e p i)
    (sum_by (λ c. weight r c * pays p i c) (filter (has_role is_least r) (funded e w)))
    (sum_by (λ c. weight r c * pays p i c) (filter (has_role is_most r) (funded e w))) (made-up e w r i) (within i v)
    (omega arith) (payments-offer e w p r (stable_gain e w r i) i approved none_wasted v)

-- a sum of multiples, the other way round
turned : (f : ℕ → ℕ) (k : ℕ) (xs : List ℕ) → sum_by (λ i. f i * k) xs ≡ k * sum_by f xs
turned f k xs =
    sum-same (λ i. f i * k) (λ i. k * f i) xs (all-every _ xs (λ i. mul_comm (f i) k)) ∙ sum-mul k f xs

-- What the weights take of stable prices: so many times all budgets for Cover, and what the projects of role `least`
-- cost, is no more than what those of the roles `most` and `left` cost.
stable-weights-take : (e : Instance) (w : List Bool) (p : Prices) (r : Weights) → RefutesStable e w r
    → SupportsStable e w p → Takes e w r p
stable-weights-take e w p r refutes (low, approved, within, paid_for, none_wasted, stable) =
    let z : ℕ → ℕ = missed e w r in
    let u : ℕ → ℕ = stable_gain e w r in
    let o : ℕ → ℕ = most_ℕ e p in
    let budgets : beta p * (sum_by u (all_voters e) + voters e * r.cover) ≤ beta p * sum_by z (all_voters e) =
    mul-le-mul_left (beta p) (omega (arith, taken-budgets e w r, refutes.budgets)) in
    let counts : sum_by (λ i. z i * beta p + least i) (all_voters e)
    ≤ sum_by (λ i. (u i * beta p + o i * z i) + most i) (all_voters e) =
    range-le _ _ 1 (voters e)
    (λ i low high. voter-offers e w p r i approved within none_wasted (low, omega arith)) in
    let on_least : sum_by (λ i. z i * beta p + least i) (all_voters e)
    ≡ sum_by (λ i. z i * beta p) (all_voters e) + p.denominator * least_cost e w r =
    sum-add (λ i. z i * beta p) least (all_voters e)
    ∙ ap (λ k. sum_by (λ i. z i * beta p) (all_voters e) + k) (weighted-paid e w p r (has_role is_least r) paid_for) in
    let on_most : sum_by (λ i. (u i * beta p + o i * z i) + most i) (all_voters e)
    ≡ sum_by (λ i. u i * beta p + o i * z i) (all_voters e) + p.denominator * most_cost e w r =
    sum-add (λ i. u i * beta p + o i * z i) most (all_voters e)
    ∙ ap (λ k. sum_by (λ i. u i * beta p + o i * z i) (all_voters e) + k)
    (weighted-paid e w p r (has_role is_most r) paid_for) in
    let on_budgets : sum_by (λ i. u i * beta p + o i * z i) (all_voters e)
    ≡ sum_by (λ i. u i * beta p) (all_voters e) + sum_by (λ i. o i * z i) (all_voters e) =
    sum-add (λ i. u i * beta p) (λ i. o i * z i) (all_voters e) in
    omega (
      arith,
      turned z (beta p) (all_voters e),
      turned u (beta p) (all_voters e),
      weighted-within e w p r o
          (λ c unfunded_is. group-offers e w p (supporters e c) c stable unfunded_is (supporters-group e c)),
    )
  where
    least : ℕ → ℕ
    least i = sum_by (λ c. weight r c * pays p i c) (filter (has_role is_least r) (funded e w))

    most : ℕ → ℕ
    most i = sum_by (λ c. weight r c * pays p i c) (filter (has_role is_most r) (funded e w))

-- no stable prices where Cover has no weight
pub none_stable_support : (e : Instance) (w : List Bool) (r : Weights) → RefutesStable e w r → r.cover ≡ 0
    → NoStablePricesSupport e w
none_stable_support e w r refutes none p supports =
    contradicts e w r p supports.0 (stable-weights-take e w p r refutes supports) refutes.costs none

-- and none whose budgets exceed the limit where it has one
pub none_stable_with_cover_support : (e : Instance) (w : List Bool) (r : Weights) → RefutesStable e w r → 0 < r.cover
    → NoStablePricesWithCoverSupport e w
none_stable_with_cover_support e w r refutes some p supports cover =
    contradicts_cover e w r p (stable-weights-take e w p r refutes supports) refutes.costs some cover

-- so where stable prices support the outcome, weights refute them only with a weight of Cover, and where Cover holds not
-- at all
pub nothing_refutes_stable : (e : Instance) (w : List Bool) (p : Prices) (cover : Bool) → SupportsStable e w p
    → (cover ≡ true → Cover e p) → NothingRefutesStable cover e w
nothing_refutes_stable e w p cover supports covered r refutes = (some, never cover covered)
  where
    some : 0 < r.cover
    some = elim (cases_lt 0 r.cover) [
      | inl more ↦ more
      | inr none ↦ absurd (none_stable_support e w r refutes (omega arith) p supports)
    ]

    never : (b : Bool) → (b ≡ true → Cover e p) → IsFalse b
    never false covers = refl
    never true covers = absurd (none_stable_with_cover_support e w r refutes some p supports (covers refl))

-- weights that refute all prices refute the stable ones
pub stable-from-plain : (e : Instance) (w : List Bool) (r : Weights) → Refutes e w r → RefutesStable e w r
stable-from-plain e w r refutes =
    let fewer : sum_by (stable_gain e w r) (all_voters e) ≤ sum_by (gain e w r) (all_voters e) =
    sum-le _ _ (all_voters e) (all-every (λ i. stable_gain e w r i ≤ gain e w r i) (all_voters e)
    (counts-at-most e w r)) in
    record { rows = refutes.rows; budgets = omega (arith, refutes.budgets); costs = refutes.costs }
