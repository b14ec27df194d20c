-- Where the budgets of all voters together are the limit, and no unfunded project can be added, all voters together have
-- less left than any unfunded project costs. So no group is passed over, and stable prices exclude violations.
use Rattle.std.proofs.Common.{◌≡◌, ℕ, ◌+◌, ◌*◌, ◌<◌, ◌≤◌, Bool, List, [], ◌∷◌, length, refl, ap, inl, inr, arith}
use Rattle.std.specs.Prelude.{◌≢◌, All, sum_by}
use Rattle.std.specs.List.{AllByRecursion}
use Rattle.std.proofs.lemmas.Bool.{cases_Bool}
use Rattle.std.proofs.lemmas.List.Elements.{recursion_from_All}
use Rattle.std.proofs.lemmas.List.FromFn.{length-range_with_len}
use Rattle.std.proofs.lemmas.List.Sums.{sum_by-cons}
use Rattle.std.proofs.Math.Nat.{lt_of_mul-lt-mul_right, mul-le-mul_left, mul-lt-mul_of_pos_left}
use Rattle.pb_records.proofs.Each.{all-weaker}
use Rattle.pb_election.specs.Instance.{Approves, Instance, IsProject, IsVoter, all_projects, all_voters, cost_of, cost_of_all, projects, voters}
use Rattle.pb_election.specs.Outcome.{has}
use Rattle.pb_certificate.specs.Prices.{Prices}
use Rattle.pb_cohesion.specs.Amounts.{beta, cost, paid, pays, spent}
use Rattle.pb_cohesion.specs.Conditions.{C1, C2, C3, C4, Exhaustive, S5}
use Rattle.pb_cohesion.specs.EveryGroup.{BudgetsAreTheLimit}
use Rattle.pb_cohesion.specs.Groups.{AreProjects, IsGroup, PassesOver, Violates, funded_for, gets, reach, sat}
use Rattle.pb_cohesion.specs.Outcome.{IsUnfunded, funded, total}
use Rattle.pb_cohesion.specs.Satisfactions.{by_count}
use Rattle.pb_cohesion.proofs.Justified.{funded_part, gets-parts, group-parts, offers-le, rest-costs, rest_of, sum-ones, sum-parts}
use Rattle.pb_cohesion.proofs.Plain.{left_ℕ}
use Rattle.pb_cohesion.proofs.Reaches.{budgets-le, costs-in-grains, group_spends}
use Rattle.pb_cohesion.proofs.Sets.{set-le-range}
use Rattle.pb_cohesion.proofs.Shares.{some-voter}
use Rattle.pb_cohesion.proofs.Stable.{most_ℕ}
use Rattle.pb_cohesion.proofs.Sums.{range-le, sum-add, sum-const, sum-exchange, sum-filter, where_passes}

-- within the budget, what all voters have left and spend comes to at most all budgets
left-and-spent : (e : Instance) (p : Prices) → C2 e p
    → sum_by (left_ℕ e p) (all_voters e) + sum_by (spent e p) (all_voters e) ≤ voters e * beta p
left-and-spent e p within =
    let each : sum_by (λ i. left_ℕ e p i + spent e p i) (all_voters e) ≤ sum_by (λ i. beta p) (all_voters e) =
    range-le (λ i. left_ℕ e p i + spent e p i) (λ i. beta p) 1 (voters e)
    (λ i low high. whole i (low, omega arith)) in
    let many : length (all_voters e) * beta p ≡ voters e * beta p =
    ap (λ n. n * beta p) (length-range_with_len 1 (voters e)) in
    omega (arith, sum-add (left_ℕ e p) (spent e p) (all_voters e), sum-const (beta p) (all_voters e))
  where
    whole : (i : ℕ) → IsVoter e i → left_ℕ e p i + spent e p i ≤ beta p
    whole i v = let most : spent e p i ≤ beta p = within i v in omega arith

-- what all voters spend covers what was funded
funded-spent : (e : Instance) (w : List Bool) (p : Prices) → C3 e w p
    → total e w * p.denominator ≤ sum_by (spent e p) (all_voters e)
funded-spent e w p paid_for =
    let exchanged : sum_by (spent e p) (all_voters e) ≡ sum_by (paid e p) (all_projects e) =
    sum-exchange (pays p) (all_voters e) (all_projects e) in
    let each : sum_by (λ c. where_passes (has w c) (cost e p c)) (all_projects e) ≤ sum_by (paid e p) (all_projects e)
    = range-le (λ c. where_passes (has w c) (cost e p c)) (paid e p) 1 (projects e)
    (λ c low high. covered c (low, omega arith)) in
    omega (arith, sum-filter (cost e p) (has w) (all_projects e), costs-in-grains e p (funded e w))
  where
    covered : (c : ℕ) → IsProject e c → where_passes (has w c) (cost e p c) ≤ paid e p c
    covered c project = elim (cases_Bool (has w c)) [
      | inl yes' ↦ (let exact : paid e p c ≡ cost e p c = paid_for c (project, yes') in rw yes' (omega arith))
      | inr no' ↦ rw no' (omega arith)
    ]

-- no group has as much left as an unfunded project costs
pub little-left : (e : Instance) (w : List Bool) (p : Prices) (s : List ℕ) (c : ℕ) → 1 ≤ p.denominator → C2 e p
    → C3 e w p → Exhaustive e w → BudgetsAreTheLimit e p → IsGroup e s → IsUnfunded e w c
    → sum_by (left_ℕ e p) s < cost e p c
little-left e w p s c low within paid_for exhaustive full group unfunded =
    let above : e.limit < total e w + cost_of e c = exhaustive c unfunded in
    let beyond : p.denominator * e.limit < p.denominator * (total e w + cost_of e c) =
    mul-lt-mul_of_pos_left above low in
    let equal : voters e * beta p ≡ e.limit * p.denominator = full in
    let part : sum_by (left_ℕ e p) s ≤ sum_by (left_ℕ e p) (all_voters e) =
    set-le-range (left_ℕ e p) (voters e) s group in
    omega (arith, left-and-spent e p within, funded-spent e w p paid_for)

-- Of n voters with budgets of b, s have budgets of less than r with the denominator d, and all have at least the limit l.
share-less : (n s l d b r : ℕ) → 0 < n → s * b < r * d → l * d ≤ n * b → s * l < n * r
share-less n s l d b r some group all =
    let limit : s * (l * d) ≤ s * (n * b) = mul-le-mul_left s all in
    let budgets : n * (s * b) < n * (r * d) = mul-lt-mul_of_pos_left group some in
    let grains : (s * l) * d < (n * r) * d = omega arith in
    lt_of_mul-lt-mul_right d grains

pub none_passed_over_at_limit : (e : Instance) (w : List Bool) (p : Prices) (s : List ℕ) (c : ℕ) → 1 ≤ p.denominator
    → C1 e p → C2 e p → C3 e w p → C4 e w p → Exhaustive e w → BudgetsAreTheLimit e p → PassesOver e w s c → ⊥
none_passed_over_at_limit e w p s c low approved within paid_for none_wasted exhaustive full passed =
    let small : sum_by (left_ℕ e p) s < cost e p c =
    little-left e w p s c low within paid_for exhaustive full passed.group.0 passed.unfunded in
    let budgets : length s * beta p < (cost_of e c + funded_for e w s) * p.denominator =
    omega (
      arith,
      budgets-le e p s,
      group_spends e w p s approved paid_for none_wasted passed.group.0,
      costs-in-grains e p (reach e w s),
    ) in
    let equal : voters e * beta p ≡ e.limit * p.denominator = full in
    let less : length s * e.limit < voters e * (cost_of e c + funded_for e w s) =
    share-less (voters e) (length s) e.limit p.denominator (beta p) (cost_of e c + funded_for e w s)
    (some-voter e s passed.group.0 passed.not_empty) budgets (omega arith) in
    let large : voters e * (cost_of e c + funded_for e w s) ≤ length s * e.limit = passed.large in
    absurd (omega arith)

-- where a member gets less than a set, not all of the set is funded
rest-some : (e : Instance) (w : List Bool) (s t : List ℕ) → s ≢ [] → AreProjects e t
    → AllByRecursion (λ i. All (Approves e i) t) s → AllByRecursion (λ i. length (gets e w i) < length t) s
    → 0 < length (rest_of w t)
rest-some e w [] t some projects_t approve less = absurd (some refl)
rest-some e w (i ∷ s) t some projects_t approve less =
    let here : length (gets e w i) < length t = less.0 in
    omega (
      arith,
      gets-parts e w t i projects_t (recursion_from_All (Approves e i) t approve.0),
      sum-ones t,
      sum-parts (λ j. 1) w t,
      sum-ones (funded_part w t),
      sum-ones (rest_of w t),
    )

-- offers for the rest but one, and what is left, are less than the rest costs
rest-more : (e : Instance) (w : List Bool) (p : Prices) (most left' : ℕ) (rest : List ℕ) → 0 < length rest
    → AllByRecursion (λ j. IsUnfunded e w j × (most ≤ cost e p j)) rest
    → ((j : ℕ) → IsUnfunded e w j → left' < cost e p j)
    → length rest * most + left' < sum_by (cost e p) rest + most
rest-more e w p most left' [] some each small = absurd (omega arith)
rest-more e w p most left' (j ∷ js) some each small =
    let here : left' < cost e p j = small j each.0.0 in
    let later : length js * most ≤ sum_by (cost e p) js = offers-le e w p most js each.1 in
    omega (arith, sum_by-cons (cost e p) j js)

pub no_violation_at_limit : (e : Instance) (w : List Bool) (p : Prices) (s t : List ℕ) → 1 ≤ p.denominator
    → C1 e p → C2 e p → C3 e w p → C4 e w p → S5 e w p → Exhaustive e w → BudgetsAreTheLimit e p
    → IsGroup e s → AreProjects e t → Violates by_count e w s t → ⊥
no_violation_at_limit e w p s t low approved within paid_for none_wasted stable exhaustive full group projects_t v =
    let less : AllByRecursion (λ i. length (gets e w i) < length t) s = fewer in
    let approve : AllByRecursion (λ i. All (Approves e i) t) s =
    recursion_from_All (λ i. All (Approves e i) t) s v.cohesive.approve in
    let budgets : length s * beta p < cost_of_all e t * p.denominator =
    omega (
      arith,
      group-parts e w p s t approved paid_for none_wasted group projects_t v.cohesive.approve less,
      rest-more e w p (sum_by (most_ℕ e p) s) (sum_by (left_ℕ e p) s) (rest_of w t)
          (rest-some e w s t v.cohesive.not_empty projects_t approve less)
          (rest-costs e w p s t stable group projects_t v.cohesive.approve)
          (λ j unfunded. little-left e w p s j low within paid_for exhaustive full group unfunded),
      sum-parts (cost e p) w t,
      costs-in-grains e p t,
    ) in
    let equal : voters e * beta p ≡ e.limit * p.denominator = full in
    let share : length s * e.limit < voters e * cost_of_all e t =
    share-less (voters e) (length s) e.limit p.denominator (beta p) (cost_of_all e t)
    (some-voter e s group v.cohesive.not_empty) budgets (omega arith) in
    let large : voters e * cost_of_all e t ≤ length s * e.limit = v.cohesive.large in
    absurd (omega arith)
  where
    counted : (i : ℕ) → sat by_count (gets e w i) < sat by_count t → length (gets e w i) < length t
    counted i h = omega (arith, sum-ones t, sum-ones (gets e w i))

    fewer : AllByRecursion (λ i. length (gets e w i) < length t) s
    fewer = all-weaker (λ i. sat by_count (gets e w i) < sat by_count t) (λ i. length (gets e w i) < length t) s counted
        (recursion_from_All (λ i. sat by_count (gets e w i) < sat by_count t) s v.less)
