-- Weights that refute leave no prices for the outcome.
use Rattle.std.proofs.Common.{◌≡◌, ℕ, zero, suc, ◌+◌, ◌-◌, ◌*◌, ◌<◌, ◌≤◌, Bool, true, false, List, length, refl, sym, ◌∙◌, ap, ◌⊎◌, inl, inr, arith}
use Rattle.std.specs.Prelude.{pos, ◌+ℤ◌, ◌&&◌, IsFalse, not, Option, Some, None, filter, sum_by}
use Rattle.std.specs.List.{AllByRecursion, range_with_len}
use Rattle.std.specs.Option.{option_map_or}
use Rattle.std.proofs.lemmas.Bool.{cases_Bool, cases_lt}
use Rattle.std.proofs.lemmas.List.Elements.{recursion_from_All}
use Rattle.std.proofs.Math.Nat.{le_of_mul-le-mul_left, lt_of_mul-lt-mul_left, mul_comm, mul-zero, mul-le-mul_left, mul-le-mul_right, mul-lt-mul_of_pos_left}
use Rattle.pb_records.proofs.Each.{all-both, all-every, all-filter, all-range, all-weaker}
use Rattle.pb_election.specs.Instance.{Instance, IsProject, IsVoter, all_projects, all_voters, approves, cost_of, projects, supporters, voters}
use Rattle.pb_election.specs.Outcome.{has}
use Rattle.pb_certificate.specs.Prices.{Prices}
use Rattle.pb_certificate.specs.Refutations.{Weights, row_of, weight}
use Rattle.pb_certificate.specs.declared.refutations.weighting.Role.{Role}
use Rattle.pb_certificate.specs.declared.refutations.weighting.Role.TheVariants.{Least, Most, Left}
use Rattle.pb_certificate.specs.declared.refutations.weighting.Weighting.{Weighting}
use Rattle.pb_cohesion.specs.Amounts.{beta, cost, largest_by, paid, pays, spent}
use Rattle.pb_cohesion.specs.Conditions.{C1, C2, C3, C4, C5, Cover, S5}
use Rattle.pb_cohesion.specs.Outcome.{IsFunded, IsUnfunded, funded, unfunded}
use Rattle.pb_cohesion.specs.Refutations.{CostsDiffer, NoPricesSupport, NoPricesWithCoverSupport, NothingRefutes, Refutes, Supports, at_least, at_most, budgets_taken, counts, gain, has_role, is_least, is_most, least_cost, left_cost, missed, misses, most_cost, positive_part, signed_by, weighted_cost}
use Rattle.pb_cohesion.proofs.Culprits.{filter-filter}
use Rattle.pb_cohesion.proofs.Gains.{costs-iff, counts-least, counts-left, counts-most}
use Rattle.pb_cohesion.proofs.Plain.{group-left, left_ℕ, supporters-group, unfunded-all}
use Rattle.pb_cohesion.proofs.Reaches.{left-le-most, pays-none, pays-wasted}
use Rattle.pb_cohesion.proofs.Sets.{filter-all}
use Rattle.pb_cohesion.proofs.Stable.{group-offers, most_ℕ}
use Rattle.pb_cohesion.proofs.Sums.{range-le, range-same, sum-add, sum-const, sum-exchange, sum-filter, sum-le, sum-mul, sum-same, where_passes}

-- a weighted sum of sums, in the other order
weighted-exchange : (v : ℕ → ℕ) (f : ℕ → ℕ → ℕ) (xs ys : List ℕ)
    → sum_by (λ c. v c * sum_by (λ i. f i c) xs) ys ≡ sum_by (λ i. sum_by (λ c. v c * f i c) ys) xs
weighted-exchange v f xs ys =
    sum-same (λ c. v c * sum_by (λ i. f i c) xs) (λ c. sum_by (λ i. v c * f i c) xs) ys
    (all-every (λ c. v c * sum_by (λ i. f i c) xs ≡ sum_by (λ i. v c * f i c) xs) ys
    (λ c. sym (sum-mul (v c) (λ i. f i c) xs)))
    ∙ sum-exchange (λ c i. v c * f i c) ys xs

-- of what a voter's unfunded projects weigh, so much each
misses-weigh : (e : Instance) (w : List Bool) (v : ℕ → ℕ) (i x : ℕ)
    → sum_by (λ c. v c * where_passes (approves e i c) x) (unfunded e w) ≡ x * sum_by v (misses e w i)
misses-weigh e w v i x =
    let each : sum_by (λ c. where_passes (not (has w c)) (v c * where_passes (approves e i c) x)) (all_projects e)
    ≡ sum_by (λ c. x * where_passes (approves e i c && not (has w c)) (v c)) (all_projects e) =
    range-same _ _ 1 (projects e) (λ c low high. term c) in
    sum-filter (λ c. v c * where_passes (approves e i c) x) (λ c. not (has w c)) (all_projects e)
    ∙ each
    ∙ sum-mul x (λ c. where_passes (approves e i c && not (has w c)) (v c)) (all_projects e)
    ∙ ap (λ k. x * k) (sym (sum-filter v (λ c. approves e i c && not (has w c)) (all_projects e)))
  where
    term : (c : ℕ) → where_passes (not (has w c)) (v c * where_passes (approves e i c) x)
        ≡ x * where_passes (approves e i c && not (has w c)) (v c)
    term c = grind (arith, cases_Bool, mul_comm)

-- weighted sums over the supporters of unfunded projects, voter by voter
pub supporters-exchange : (e : Instance) (w : List Bool) (v f : ℕ → ℕ)
    → sum_by (λ c. v c * sum_by f (supporters e c)) (unfunded e w)
    ≡ sum_by (λ i. f i * sum_by v (misses e w i)) (all_voters e)
supporters-exchange e w v f =
    sum-same (λ c. v c * sum_by f (supporters e c))
    (λ c. v c * sum_by (λ i. where_passes (approves e i c) (f i)) (all_voters e)) (unfunded e w)
    (all-every _ (unfunded e w) (λ c. ap (λ k. v c * k) (sum-filter f (λ i. approves e i c) (all_voters e))))
    ∙ weighted-exchange v (λ i c. where_passes (approves e i c) (f i)) (all_voters e) (unfunded e w)
    ∙ sum-same (λ i. sum_by (λ c. v c * where_passes (approves e i c) (f i)) (unfunded e w))
    (λ i. f i * sum_by v (misses e w i)) (all_voters e)
    (all-every _ (all_voters e) (λ i. misses-weigh e w v i (f i)))

-- how often budgets are taken, voter by voter
pub taken-budgets : (e : Instance) (w : List Bool) (r : Weights)
    → budgets_taken e w r ≡ sum_by (missed e w r) (all_voters e)
taken-budgets e w r =
    sum-same (λ c. weight r c * length (supporters e c)) (λ c. weight r c * sum_by (λ i. 1) (supporters e c))
    (unfunded e w) (all-every _ (unfunded e w) (λ c. ap (λ k. weight r c * k) (counted (supporters e c))))
    ∙ supporters-exchange e w (weight r) (λ i. 1)
    ∙ sum-same (λ i. 1 * missed e w r i) (missed e w r) (all_voters e)
    (all-every _ (all_voters e) (λ i. omega arith))
  where
    counted : (s : List ℕ) → length s ≡ sum_by (λ i. 1) s
    counted s = omega (arith, sum-const 1 s)

-- a largest value of what a filter keeps is at least each
largest-kept : (f : ℕ → ℕ) (q : ℕ → Bool) (n a j : ℕ) → a ≤ j → j < a + n → q j ≡ true
    → f j ≤ largest_by f (filter q (range_with_len a n))
largest-kept f q zero a j low high pass = absurd (omega arith)
largest-kept f q (suc n) a j low high pass = grind (arith, cases_Bool, largest-kept f q n (a + 1) j)

-- the funded projects are funded
funded-all : (e : Instance) (w : List Bool) → AllByRecursion (IsFunded e w) (funded e w)
funded-all e w =
    all-both (IsProject e) (λ c. has w c ≡ true) (IsFunded e w) (funded e w) (λ c project is. (project, is))
    (all-filter (IsProject e) (has w) (all_projects e)
    (all-range (IsProject e) 1 (projects e) (λ j low high. (low, omega arith))))
    (filter-all (has w) (all_projects e))

-- in either form the supporters of an unfunded project have at most its cost left
supporters-left : (e : Instance) (w : List Bool) (p : Prices) (c : ℕ) → C2 e p → C5 e w p ⊎ S5 e w p → IsUnfunded e w c
    → sum_by (left_ℕ e p) (supporters e c) ≤ cost e p c
supporters-left e w p c within (inl plain) unfunded_is =
    group-left e w p (supporters e c) c within plain unfunded_is (supporters-group e c)
supporters-left e w p c within (inr stable) unfunded_is =
    let most : sum_by (most_ℕ e p) (supporters e c) ≤ cost e p c =
    group-offers e w p (supporters e c) c stable unfunded_is (supporters-group e c) in
    omega (arith, left-le-most e p (supporters e c))

-- How often a payment of x counts, by the role and the weight of its project: no more than by u, where that is the most
-- that one counts.
role-counts : (role : Role) (k z u x : ℕ) → positive_part (signed_by role k +ℤ pos z) ≤ u
    → z * x + where_passes (is_least role) (k * x) ≤ u * x + where_passes (is_most role) (k * x)
role-counts Least k z u x most =
    let whole : z + k ≤ u = omega (arith, most, counts-least k z) in
    let all : (z + k) * x ≤ u * x = mul-le-mul_right x whole in
    omega arith
role-counts Most k z u x most =
    let more : z ≤ u + k = omega (arith, most, counts-most k z) in
    let all : z * x ≤ (u + k) * x = mul-le-mul_right x more in
    omega arith
role-counts Left k z u x most =
    let whole : z ≤ u = omega (arith, most, counts-left z) in
    let all : z * x ≤ u * x = mul-le-mul_right x whole in
    omega arith

pub row-counts : (row : Option Weighting) (z u x : ℕ)
    → positive_part (option_map_or (λ y. signed_by y.role y.weight) row (pos 0) +ℤ pos z) ≤ u
    → z * x + where_passes (option_map_or (λ y. is_least y.role) row false) (option_map_or (λ y. y.weight) row 0 * x)
    ≤ u * x + where_passes (option_map_or (λ y. is_most y.role) row false) (option_map_or (λ y. y.weight) row 0 * x)
row-counts None z u x most =
    let whole : z ≤ u = omega (arith, most, counts-left z) in
    let all : z * x ≤ u * x = mul-le-mul_right x whole in
    omega arith
row-counts (Some y) z u x most = role-counts y.role y.weight z u x most

-- a payment of nothing counts nothing
pub none-counts : (b d : Bool) (z u k x : ℕ) → x ≡ 0 → z * x + where_passes b (k * x) ≤ u * x + where_passes d (k * x)
none-counts b d z u k x none = rw none (omega (arith, where-zero b k, where-zero d k))
  where
    where-zero : (q : Bool) (n : ℕ) → where_passes q (n * 0) ≡ 0
    where-zero true n = mul-zero n
    where-zero false n = refl

-- The payment of a voter for a project: what it counts beside the voter's unfunded projects is no more than the most.
payment-counts : (e : Instance) (w : List Bool) (p : Prices) (r : Weights) (i c : ℕ) → C1 e p → C4 e w p → IsVoter e i
    → IsProject e c
    → missed e w r i * pays p i c + where_passes (has w c && has_role is_least r c) (weight r c * pays p i c)
    ≤ gain e w r i * pays p i c + where_passes (has w c && has_role is_most r c) (weight r c * pays p i c)
payment-counts e w p r i c approved none_wasted v project = elim (cases_Bool (has w c)) [
  | inr no' ↦ none-counts _ _ _ _ _ _ (pays-wasted e w p i c none_wasted v project no')
  | inl yes' ↦
      elim (cases_Bool (approves e i c)) [
        | inr no' ↦ none-counts _ _ _ _ _ _ (pays-none e p i c approved v project no')
        | inl approved_is ↦
            let kept : (approves e i c && has w c) ≡ true = rw (approved_is, yes') refl in
            let most : positive_part (counts r (missed e w r i) c) ≤ gain e w r i =
            largest-kept (λ j. positive_part (counts r (missed e w r i) j)) (λ j. approves e i j && has w j) (projects e)
            1 c project.0 (let high : c ≤ projects e = project.1 in omega arith) kept in
            rw yes' (row-counts (row_of r c) (missed e w r i) (gain e w r i) (pays p i c) most)
      ]
]

-- a sum over the funded projects that pass a test
pub funded-sum : (e : Instance) (w : List Bool) (q : ℕ → Bool) (f : ℕ → ℕ)
    → sum_by f (filter q (funded e w)) ≡ sum_by (λ c. where_passes (has w c && q c) (f c)) (all_projects e)
funded-sum e w q f =
    ap (sum_by f) (filter-filter q (has w) (all_projects e)) ∙ sum-filter f (λ c. has w c && q c) (all_projects e)

-- all payments of a voter
voter-counts : (e : Instance) (w : List Bool) (p : Prices) (r : Weights) (i : ℕ) → C1 e p → C2 e p → C4 e w p
    → IsVoter e i
    → missed e w r i * spent e p i
    + sum_by (λ c. weight r c * pays p i c) (filter (has_role is_least r) (funded e w))
    ≤ gain e w r i * beta p + sum_by (λ c. weight r c * pays p i c) (filter (has_role is_most r) (funded e w))
voter-counts e w p r i approved within none_wasted v =
    let z : ℕ = missed e w r i in
    let u : ℕ = gain e w r i in
    let least : ℕ → ℕ = λ c. where_passes (has w c && has_role is_least r c) (weight r c * pays p i c) in
    let most : ℕ → ℕ = λ c. where_passes (has w c && has_role is_most r c) (weight r c * pays p i c) in
    let each : sum_by (λ c. z * pays p i c + least c) (all_projects e)
    ≤ sum_by (λ c. u * pays p i c + most c) (all_projects e) =
    range-le _ _ 1 (projects e)
    (λ c low high. payment-counts e w p r i c approved none_wasted v (low, omega arith)) in
    let on_least : sum_by (λ c. z * pays p i c + least c) (all_projects e)
    ≡ z * spent e p i + sum_by least (all_projects e) =
    sum-add (λ c. z * pays p i c) least (all_projects e)
    ∙ ap (λ k. k + sum_by least (all_projects e)) (sum-mul z (pays p i) (all_projects e)) in
    let on_most : sum_by (λ c. u * pays p i c + most c) (all_projects e)
    ≡ u * spent e p i + sum_by most (all_projects e) =
    sum-add (λ c. u * pays p i c) most (all_projects e)
    ∙ ap (λ k. k + sum_by most (all_projects e)) (sum-mul u (pays p i) (all_projects e)) in
    let budget : u * spent e p i ≤ u * beta p = mul-le-mul_left u (within i v) in
    omega (
      arith,
      funded-sum e w (has_role is_least r) (λ c. weight r c * pays p i c),
      funded-sum e w (has_role is_most r) (λ c. weight r c * pays p i c),
    )

-- what is paid for funded projects, each by its weight, is what they cost so
pub weighted-paid : (e : Instance) (w : List Bool) (p : Prices) (r : Weights) (q : ℕ → Bool) → C3 e w p
    → sum_by (λ i. sum_by (λ c. weight r c * pays p i c) (filter q (funded e w))) (all_voters e)
    ≡ p.denominator * weighted_cost e r (filter q (funded e w))
weighted-paid e w p r q paid_for =
    sym (weighted-exchange (weight r) (pays p) (all_voters e) (filter q (funded e w)))
    ∙ sum-same (λ c. weight r c * paid e p c) (λ c. p.denominator * (weight r c * cost_of e c)) (filter q (funded e w))
    (all-weaker (IsFunded e w) (λ c. weight r c * paid e p c ≡ p.denominator * (weight r c * cost_of e c))
    (filter q (funded e w)) term (all-filter (IsFunded e w) q (funded e w) (funded-all e w)))
    ∙ sum-mul p.denominator (λ c. weight r c * cost_of e c) (filter q (funded e w))
  where
    term : (c : ℕ) → IsFunded e w c → weight r c * paid e p c ≡ p.denominator * (weight r c * cost_of e c)
    term c funded_is = let exact : paid e p c ≡ cost e p c = paid_for c funded_is in rw exact (omega arith)

-- What the supporters of unfunded projects have, each project by its weight: at most what they cost so, where it is at
-- most the cost for each project.
pub weighted-within : (e : Instance) (w : List Bool) (p : Prices) (r : Weights) (f : ℕ → ℕ)
    → ((c : ℕ) → IsUnfunded e w c → sum_by f (supporters e c) ≤ cost e p c)
    → sum_by (λ i. f i * missed e w r i) (all_voters e) ≤ p.denominator * left_cost e w r
weighted-within e w p r f within =
    let each : sum_by (λ c. weight r c * sum_by f (supporters e c)) (unfunded e w)
    ≤ sum_by (λ c. p.denominator * (weight r c * cost_of e c)) (unfunded e w) =
    sum-le _ _ (unfunded e w)
    (all-weaker (IsUnfunded e w)
    (λ c. weight r c * sum_by f (supporters e c) ≤ p.denominator * (weight r c * cost_of e c)) (unfunded e w)
    term (recursion_from_All (IsUnfunded e w) (unfunded e w) (unfunded-all e w))) in
    omega (
      arith,
      supporters-exchange e w (weight r) f,
      sum-mul p.denominator (λ c. weight r c * cost_of e c) (unfunded e w),
    )
  where
    term : (c : ℕ) → IsUnfunded e w c
        → weight r c * sum_by f (supporters e c) ≤ p.denominator * (weight r c * cost_of e c)
    term c unfunded_is =
        let all : weight r c * sum_by f (supporters e c) ≤ weight r c * cost e p c =
        mul-le-mul_left (weight r c) (within c unfunded_is) in
        omega arith

-- What the weights take of all prices in either form: so many times all budgets for Cover, and what the projects of role
-- `least` cost, is no more than what those of the roles `most` and `left` cost.
weights-take : (e : Instance) (w : List Bool) (p : Prices) (r : Weights) → Refutes e w r → Supports e w p
    → beta p * (voters e * r.cover) + p.denominator * least_cost e w r ≤ p.denominator * at_most e w r
weights-take e w p r refutes (low, approved, within, paid_for, none_wasted, form) =
    let z : ℕ → ℕ = missed e w r in
    let budgets : beta p * (sum_by (gain e w r) (all_voters e) + voters e * r.cover)
    ≤ beta p * sum_by z (all_voters e) =
    mul-le-mul_left (beta p) (omega (arith, taken-budgets e w r, refutes.budgets)) in
    let split : beta p * sum_by z (all_voters e)
    ≡ sum_by (λ i. left_ℕ e p i * z i) (all_voters e) + sum_by (λ i. z i * spent e p i) (all_voters e) =
    sym (sum-mul (beta p) z (all_voters e))
    ∙ range-same (λ i. beta p * z i) (λ i. left_ℕ e p i * z i + z i * spent e p i) 1 (voters e)
    (λ i low high. parted (z i) i (low, omega arith))
    ∙ sum-add (λ i. left_ℕ e p i * z i) (λ i. z i * spent e p i) (all_voters e) in
    let counts : sum_by (λ i. z i * spent e p i + least i) (all_voters e)
    ≤ sum_by (λ i. gain e w r i * beta p + most i) (all_voters e) =
    range-le _ _ 1 (voters e)
    (λ i low high. voter-counts e w p r i approved within none_wasted (low, omega arith)) in
    let on_least : sum_by (λ i. z i * spent e p i + least i) (all_voters e)
    ≡ sum_by (λ i. z i * spent e p i) (all_voters e) + p.denominator * least_cost e w r =
    sum-add (λ i. z i * spent e p i) least (all_voters e)
    ∙ ap (λ k. sum_by (λ i. z i * spent e p i) (all_voters e) + k) (weighted-paid e w p r (has_role is_least r) paid_for) in
    let on_most : sum_by (λ i. gain e w r i * beta p + most i) (all_voters e)
    ≡ sum_by (λ i. gain e w r i * beta p) (all_voters e) + p.denominator * most_cost e w r =
    sum-add (λ i. gain e w r i * beta p) most (all_voters e)
    ∙ ap (λ k. sum_by (λ i. gain e w r i * beta p) (all_voters e) + k)
    (weighted-paid e w p r (has_role is_most r) paid_for) in
    let turned : sum_by (λ i. gain e w r i * beta p) (all_voters e)
    ≡ beta p * sum_by (gain e w r) (all_voters e) =
    sum-same (λ i. gain e w r i * beta p) (λ i. beta p * gain e w r i) (all_voters e)
    (all-every _ (all_voters e) (λ i. mul_comm (gain e w r i) (beta p)))
    ∙ sum-mul (beta p) (gain e w r) (all_voters e) in
    omega (arith, weighted-within e w p r (left_ℕ e p) (λ c. supporters-left e w p c within form))
  where
    least : ℕ → ℕ
    least i = sum_by (λ c. weight r c * pays p i c) (filter (has_role is_least r) (funded e w))

    most : ℕ → ℕ
    most i = sum_by (λ c. weight r c * pays p i c) (filter (has_role is_most r) (funded e w))

    parted : (k i : ℕ) → IsVoter e i → beta p * k ≡ left_ℕ e p i * k + k * spent e p i
    parted k i v =
        let low : spent e p i ≤ beta p = within i v in
        let whole : beta p ≡ (beta p - spent e p i) + spent e p i = omega arith in
        ap (λ b. b * k) whole ∙ omega arith

-- What weights take, so many times all budgets for Cover, contradicts what the costs say.
abbrev pub Takes : Instance → List Bool → Weights → Prices → Type 0
Takes e w r p =
    beta p * (voters e * r.cover) + p.denominator * least_cost e w r ≤ p.denominator * at_most e w r

pub contradicts : (e : Instance) (w : List Bool) (r : Weights) (p : Prices) → 1 ≤ p.denominator → Takes e w r p
    → CostsDiffer e w r → r.cover ≡ 0 → ⊥
contradicts e w r p low taken costs none =
    let grains : p.denominator * least_cost e w r ≤ p.denominator * at_most e w r = omega arith in
    let less : least_cost e w r ≤ at_most e w r = le_of_mul-le-mul_left grains low in
    let limit : r.cover * e.limit ≡ 0 = ap (λ k. k * e.limit) none ∙ omega arith in
    elim ((costs-iff e w r).0 costs) [ inl more ↦ absurd (omega arith) | inr same ↦ absurd (omega (arith, none, same.1)) ]

pub contradicts_cover : (e : Instance) (w : List Bool) (r : Weights) (p : Prices) → Takes e w r p → CostsDiffer e w r
    → 0 < r.cover → Cover e p → ⊥
contradicts_cover e w r p taken costs some cover =
    let limit : r.cover * (e.limit * p.denominator) < r.cover * (voters e * beta p) =
    mul-lt-mul_of_pos_left cover some in
    let grains : p.denominator * at_least e w r < p.denominator * at_most e w r = omega arith in
    let less : at_least e w r < at_most e w r = lt_of_mul-lt-mul_left p.denominator grains in
    elim ((costs-iff e w r).0 costs) [ inl more ↦ absurd (omega arith) | inr same ↦ absurd (omega (arith, same.0)) ]

-- no prices in either form where Cover has no weight
pub none_support : (e : Instance) (w : List Bool) (r : Weights) → Refutes e w r → r.cover ≡ 0 → NoPricesSupport e w
none_support e w r refutes none p supports =
    contradicts e w r p supports.0 (weights-take e w p r refutes supports) refutes.costs none

-- and none whose budgets exceed the limit where it has one
pub none_with_cover_support : (e : Instance) (w : List Bool) (r : Weights) → Refutes e w r → 0 < r.cover
    → NoPricesWithCoverSupport e w
none_with_cover_support e w r refutes some p supports cover =
    contradicts_cover e w r p (weights-take e w p r refutes supports) refutes.costs some cover

-- so where prices support the outcome, weights refute it only with a weight of Cover, and where Cover holds not at all
pub nothing_refutes : (e : Instance) (w : List Bool) (p : Prices) (cover : Bool) → Supports e w p
    → (cover ≡ true → Cover e p) → NothingRefutes cover e w
nothing_refutes e w p cover supports covered r refutes = (some, never cover covered)
  where
    some : 0 < r.cover
    some = elim (cases_lt 0 r.cover) [
      | inl more ↦ more
      | inr none ↦ absurd (none_support e w r refutes (omega arith) p supports)
    ]

    never : (b : Bool) → (b ≡ true → Cover e p) → IsFalse b
    never false covers = refl
    never true covers = absurd (none_with_cover_support e w r refutes some p supports (covers refl))
