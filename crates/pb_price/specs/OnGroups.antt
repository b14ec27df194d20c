-- What a yes to prices says of every group of voters: one of three cases.
use Rattle.std.specs.Prelude.{◌≡◌, ◌<◌, ◌*◌, ◌⊎◌, ◌↔◌, ◌||◌, nat_lt, if◌then◌else◌, IsFalse, IsTrue, ⊤, Bool, ℕ, List}
use Rattle.pb_election.specs.Instance.{Instance, voters}
use Rattle.pb_certificate.specs.Prices.{Prices}
use Rattle.pb_cohesion.specs.Amounts.{beta, budget_limit}
use Rattle.pb_cohesion.specs.Conditions.{Cover}
use Rattle.pb_cohesion.specs.EveryGroup.{BudgetsAreTheLimit, NoGroupIsPassedOver, SharesAreWithinReach}
use Rattle.pb_cohesion.specs.declared.Mode.{Mode}
use Rattle.pb_price.specs.declared.OnGroups.{OnGroups}
use Rattle.pb_price.specs.declared.OnGroups.TheVariants.{Strict, Weak, Little}

-- by the voter budgets of all voters together and the limit, and by whether Exhaustive is asked for
abbrev pub on_groups : Bool → ℕ → ℕ → OnGroups
on_groups exhaustive budgets limit =
    if nat_lt budgets limit then Little
    else if nat_lt limit budgets || exhaustive then Strict
    else Weak

-- what a yes to these prices says in a mode
abbrev pub groups_by : Mode → Instance → Prices → OnGroups
groups_by m e p = on_groups m.exhaustive (voters e * beta p) (budget_limit e p)

-- The budgets of all voters together are more than the limit, or they are the limit and Exhaustive is asked for; they are
-- the limit without that; they are less.
abbrev pub IsStrict : Mode → Instance → Prices → Type 0
IsStrict m e p = Cover e p ⊎ (BudgetsAreTheLimit e p × IsTrue m.exhaustive)

abbrev pub IsWeak : Mode → Instance → Prices → Type 0
IsWeak m e p = BudgetsAreTheLimit e p × IsFalse m.exhaustive

abbrev pub IsLittle : Instance → Prices → Type 0
IsLittle e p = voters e * beta p < budget_limit e p

-- which case it is
pub record IsCaseOf (m : Mode) (e : Instance) (p : Prices) (said : OnGroups) : Type 0 where
  pub strict : (said ≡ Strict) ↔ IsStrict m e p
  pub weak : (said ≡ Weak) ↔ IsWeak m e p
  pub little : (said ≡ Little) ↔ IsLittle e p

-- What each case says of every group whose members all approve an unfunded project: its share of the limit is less than
-- what this project costs and what was funded for the group together, or no more than that; or nothing.
abbrev pub HoldsOfGroups : OnGroups → Instance → List Bool → Type 0
HoldsOfGroups Strict e w = NoGroupIsPassedOver e w
HoldsOfGroups Weak e w = SharesAreWithinReach e w
HoldsOfGroups Little e w = ⊤
