-- No group is passed over where the budgets of all voters reach the limit.
use Rattle.std.proofs.Common.{ℕ, ◌+◌, ◌*◌, ◌<◌, ◌≤◌, Bool, List, [], ◌∷◌, length, refl, ◌⊎◌, inl, inr, arith, get_or}
use Rattle.std.specs.Prelude.{◌≢◌, All}
use Rattle.std.proofs.lemmas.Bool.{cases_lt}
use Rattle.std.proofs.Math.Nat.{le_of_mul-le-mul_left, le_of_mul-le-mul_right, lt_of_mul-lt-mul_right, mul-le-mul_left, mul-lt-mul_of_pos_left}
use Rattle.pb_election.specs.Instance.{Approves, Instance, cost_of, cost_of_all, voters}
use Rattle.pb_certificate.specs.Prices.{Prices}
use Rattle.pb_cohesion.specs.Amounts.{beta}
use Rattle.pb_cohesion.specs.Conditions.{C1, C2, C3, C4, C5, Cover, S5}
use Rattle.pb_cohesion.specs.EveryGroup.{BudgetsReachTheLimit, DemandsAreWithinReach, NoDemandIsPassedOver, NoGroupIsPassedOver, SharesAreWithinReach}
use Rattle.pb_cohesion.specs.Groups.{Cohesive, IsGroup, IsGroupWithin, PassesOver, funded_for, reach}
use Rattle.pb_cohesion.specs.Outcome.{IsUnfunded}
use Rattle.pb_cohesion.proofs.Justified.{all-turned, not-empty}
use Rattle.pb_cohesion.proofs.Reaches.{costs-in-grains, within_reach}

-- Of n voters with budgets of b, s have budgets of at most r with the denominator d, and all have at least, or more
-- than, the limit l.
share-le : (n s l d b r : ℕ) → 1 ≤ d → s * b ≤ r * d → l * d ≤ n * b → s * l ≤ n * r
share-le n s l d b r low group all =
    let limit : s * (l * d) ≤ s * (n * b) = mul-le-mul_left s all in
    let budgets : n * (s * b) ≤ n * (r * d) = mul-le-mul_left n group in
    let grains : (s * l) * d ≤ (n * r) * d = omega arith in
    le_of_mul-le-mul_right grains (omega arith)

share-lt : (n s l d b r : ℕ) → 0 < s → s * b ≤ r * d → l * d < n * b → s * l < n * r
share-lt n s l d b r some group all =
    let limit : s * (l * d) < s * (n * b) = mul-lt-mul_of_pos_left all some in
    let budgets : n * (s * b) ≤ n * (r * d) = mul-le-mul_left n group in
    let grains : (s * l) * d < (n * r) * d = omega arith in
    lt_of_mul-lt-mul_right d grains

-- the budgets of a group of supporters of an unfunded project, by what that costs and what was funded for the group
budgets-reach : (e : Instance) (w : List Bool) (p : Prices) (s : List ℕ) (c : ℕ) → C1 e p → C3 e w p → C4 e w p
    → (C2 e p × C5 e w p) ⊎ S5 e w p → IsUnfunded e w c → IsGroupWithin e s c
    → length s * beta p ≤ (cost_of e c + funded_for e w s) * p.denominator
budgets-reach e w p s c approved paid_for none_wasted form unfunded group =
    omega (
      arith,
      within_reach e w p s c approved paid_for none_wasted form unfunded group,
      costs-in-grains e p (reach e w s),
    )

pub shares_reach : (e : Instance) (w : List Bool) (p : Prices) (s : List ℕ) (c : ℕ) → 1 ≤ p.denominator → C1 e p
    → C3 e w p → C4 e w p
    → (C2 e p × C5 e w p) ⊎ S5 e w p → BudgetsReachTheLimit e p → IsUnfunded e w c → IsGroupWithin e s c
    → length s * e.limit ≤ voters e * (cost_of e c + funded_for e w s)
shares_reach e w p s c low approved paid_for none_wasted form reached unfunded group =
    share-le (voters e) (length s) e.limit p.denominator (beta p) (cost_of e c + funded_for e w s) low
    (budgets-reach e w p s c approved paid_for none_wasted form unfunded group) reached

pub none_passed_over : (e : Instance) (w : List Bool) (p : Prices) (s : List ℕ) (c : ℕ) → C1 e p → C3 e w p → C4 e w p
    → (C2 e p × C5 e w p) ⊎ S5 e w p → Cover e p → PassesOver e w s c → ⊥
none_passed_over e w p s c approved paid_for none_wasted form cover passed =
    let less : length s * e.limit < voters e * (cost_of e c + funded_for e w s) =
    share-lt (voters e) (length s) e.limit p.denominator (beta p) (cost_of e c + funded_for e w s)
    (not-empty s passed.not_empty)
    (budgets-reach e w p s c approved paid_for none_wasted form passed.unfunded passed.group) cover in
    let large : voters e * (cost_of e c + funded_for e w s) ≤ length s * e.limit = passed.large in
    absurd (omega arith)

-- a group that is not empty is one of an election with voters
pub some-voter : (e : Instance) (s : List ℕ) → IsGroup e s → s ≢ [] → 0 < voters e
some-voter e [] group some = absurd (some refl)
some-voter e (i ∷ s) group some =
    let low : 1 ≤ i = group.0 in let high : i ≤ voters e = group.1 in omega arith

-- a project that a cohesive group demands has the group among its supporters
supports : (e : Instance) (s t : List ℕ) → IsGroup e s → Cohesive e s t → All (λ c. IsGroupWithin e s c) t
supports e s t group cohesive k d within = (group, all-turned (Approves e) s t cohesive.approve k d within)

pub demands_reach : (e : Instance) (w : List Bool) → SharesAreWithinReach e w → DemandsAreWithinReach e w
demands_reach e w shares s t group cohesive k d within unfunded =
    let share : length s * e.limit ≤ voters e * (cost_of e (get_or t k d) + funded_for e w s) =
    shares s (get_or t k d) unfunded (supports e s t group cohesive k d within) in
    let large : voters e * cost_of_all e t ≤ length s * e.limit = cohesive.large in
    let all : voters e * cost_of_all e t ≤ voters e * (cost_of e (get_or t k d) + funded_for e w s) = omega arith in
    le_of_mul-le-mul_left all (some-voter e s group cohesive.not_empty)

pub no_demand_passed_over : (e : Instance) (w : List Bool) → NoGroupIsPassedOver e w → NoDemandIsPassedOver e w
no_demand_passed_over e w none s t group cohesive k d within unfunded =
    elim (cases_lt (cost_of_all e t) (cost_of e (get_or t k d) + funded_for e w s)) [
      | inl less ↦ less
      | inr more ↦
          let all : voters e * (cost_of e (get_or t k d) + funded_for e w s) ≤ voters e * cost_of_all e t =
          mul-le-mul_left (voters e) more in
          let large : voters e * cost_of_all e t ≤ length s * e.limit = cohesive.large in
          absurd (
          none s (get_or t k d) (record {
            not_empty = cohesive.not_empty;
            unfunded = unfunded;
            group = supports e s t group cohesive k d within;
            large = omega arith;
          })
          )
    ]
