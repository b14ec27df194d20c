-- What the conditions promise of every group of voters.
use Rattle.std.specs.Prelude.{◌≡◌, ◌<◌, ◌≤◌, ◌*◌, ◌+◌, ℕ, pos, ◌≤ℤ◌, ◌<ℤ◌, All, Any, Bool, List, length, sum_by}
use Rattle.pb_election.specs.Instance.{Approves, Instance, cost_of, cost_of_all, supporters, voters}
use Rattle.pb_certificate.specs.Prices.{Prices}
use Rattle.pb_cohesion.specs.Amounts.{beta, budget_limit, cost, left}
use Rattle.pb_cohesion.specs.Conditions.{sum_ℤ}
use Rattle.pb_cohesion.specs.Satisfactions.{by_count}
use Rattle.pb_cohesion.specs.Groups.{AreProjects, Blocks, Cohesive, IsGroup, IsGroupWithin, PassesOver, Violates, funded_for, gets, reach}
use Rattle.pb_cohesion.specs.Outcome.{IsUnfunded}

-- no group of supporters of an unfunded project has more left than it costs
abbrev pub NoGroupHasMoreLeft : Instance → List Bool → Prices → Type 0
NoGroupHasMoreLeft e w p = (s : List ℕ) (c : ℕ) → IsUnfunded e w c → IsGroupWithin e s c
    → sum_ℤ (left e p) s ≤ℤ pos (cost e p c)

-- the supporters of project c are a group that has more left than it costs
abbrev pub SupportersHaveMoreLeft : Instance → Prices → ℕ → Type 0
SupportersHaveMoreLeft e p c = IsGroupWithin e (supporters e c) c
    × (pos (cost e p c) <ℤ sum_ℤ (left e p) (supporters e c))

-- no group blocks for any project, whatever its members offer
abbrev pub NothingBlocks : Instance → List Bool → Prices → Type 0
NothingBlocks e w p = (s : List ℕ) (c : ℕ) (x : ℕ → ℕ) → Blocks e w p s c x → ⊥

-- the supporters of project c have offers by which they block for it
abbrev pub SupportersBlock : Instance → List Bool → Prices → ℕ → Type 0
SupportersBlock e w p c = (x : ℕ → ℕ) × Blocks e w p (supporters e c) c x

-- the budgets of a group of supporters of an unfunded project come to at most its cost and that of the group's reach
abbrev pub BudgetsAreWithinReach : Instance → List Bool → Prices → Type 0
BudgetsAreWithinReach e w p = (s : List ℕ) (c : ℕ) → IsUnfunded e w c → IsGroupWithin e s c
    → length s * beta p ≤ cost e p c + sum_by (cost e p) (reach e w s)

-- the voter budgets of all voters together are at least the limit; Cover says that they are more
abbrev pub BudgetsReachTheLimit : Instance → Prices → Type 0
BudgetsReachTheLimit e p = budget_limit e p ≤ voters e * beta p

-- they are the limit
abbrev pub BudgetsAreTheLimit : Instance → Prices → Type 0
BudgetsAreTheLimit e p = voters e * beta p ≡ budget_limit e p

-- the share of a group of supporters of an unfunded project in the limit is at most what this project costs and what
-- was funded for the group together
abbrev pub SharesAreWithinReach : Instance → List Bool → Type 0
SharesAreWithinReach e w = (s : List ℕ) (c : ℕ) → IsUnfunded e w c → IsGroupWithin e s c
    → length s * e.limit ≤ voters e * (cost_of e c + funded_for e w s)

-- PJR+ up to any project: the share of a group that is not empty is less than that
abbrev pub NoGroupIsPassedOver : Instance → List Bool → Type 0
NoGroupIsPassedOver e w = (s : List ℕ) (c : ℕ) → PassesOver e w s c → ⊥

-- what a cohesive group demands costs at most what any unfunded project of it costs and what was funded for the group
-- together
abbrev pub DemandsAreWithinReach : Instance → List Bool → Type 0
DemandsAreWithinReach e w = (s t : List ℕ) → IsGroup e s → Cohesive e s t
    → All (λ c. IsUnfunded e w c → cost_of_all e t ≤ cost_of e c + funded_for e w s) t

-- PJR up to any project: it costs less than that
abbrev pub NoDemandIsPassedOver : Instance → List Bool → Type 0
NoDemandIsPassedOver e w = (s t : List ℕ) → IsGroup e s → Cohesive e s t
    → All (λ c. IsUnfunded e w c → cost_of_all e t < cost_of e c + funded_for e w s) t

-- each group gets its share: where its budgets come to more than some projects cost that all members approve, some
-- member approves at least as many funded projects
abbrev pub GroupsGetTheirShare : Instance → List Bool → Prices → Type 0
GroupsGetTheirShare e w p = (s t : List ℕ) → IsGroup e s → AreProjects e t → All (λ i. All (λ j. Approves e i j) t) s
    → sum_by (cost e p) t < length s * beta p → Any (λ i. length t ≤ length (gets e w i)) s

-- no group and no demand are a violation by counting
abbrev pub NoViolationByCounting : Instance → List Bool → Type 0
NoViolationByCounting e w = (s t : List ℕ) → IsGroup e s → AreProjects e t → Violates by_count e w s t → ⊥
