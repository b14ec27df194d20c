-- What a yes to prices promises of every group of voters, and of every refutation.
use Rattle.std.specs.Prelude.{IsFalse, IsTrue, Bool, List}
use Rattle.pb_election.specs.Instance.{Instance}
use Rattle.pb_certificate.specs.Prices.{Prices}
use Rattle.pb_certificate.specs.declared.violations.measure.Measure.TheVariants.{ByCount}
use Rattle.pb_cohesion.specs.EveryGroup.{BudgetsAreWithinReach, BudgetsReachTheLimit, DemandsAreWithinReach, GroupsGetTheirShare, NoDemandIsPassedOver, NoGroupHasMoreLeft, NoGroupIsPassedOver, NoViolationByCounting, NothingBlocks, SharesAreWithinReach}
use Rattle.pb_cohesion.specs.Refutations.{NothingRefutes, NothingRefutesStable}
use Rattle.pb_cohesion.specs.Short.{SatisfiesEjrPlus}
use Rattle.pb_price.specs.OnGroups.{HoldsOfGroups, IsStrict, groups_by}
use Rattle.pb_cohesion.specs.declared.Mode.{Mode}

-- What a yes to the prices p promises, where w says what is funded. A group of supporters is here one whose members all
-- approve some unfunded project. Its bound is what that project costs and what was funded for the group, together.
pub record YesPromises (m : Mode) (e : Instance) (w : List Bool) (p : Prices) : Type 0 where
  -- In the plain form no group of supporters has more left than the project costs.
  pub plain : IsFalse m.stable → NoGroupHasMoreLeft e w p
  -- In the stable form none blocks: none can offer more than that, even if members give up a project that they pay for.
  pub stable : IsTrue m.stable → NothingBlocks e w p
  -- In either form the voter budgets of a group of supporters come to at most its bound.
  pub budgets : BudgetsAreWithinReach e w p
  -- Its share of the limit is less than its bound, or at most that, or not compared with it: one of three cases.
  pub groups : HoldsOfGroups (groups_by m e p) e w
  -- If the budgets of all voters together are at least the limit, each share is at most the bound.
  pub shares : BudgetsReachTheLimit e p → SharesAreWithinReach e w
  -- In the strict case each share is less than the bound: PJR+ up to any project.
  pub pjr_plus : IsStrict m e p → NoGroupIsPassedOver e w
  -- If those budgets are at least the limit, what a cohesive group demands costs at most the bound.
  pub demands : BudgetsReachTheLimit e p → DemandsAreWithinReach e w
  -- In the strict case it costs less than the bound: PJR up to any project.
  pub pjr : IsStrict m e p → NoDemandIsPassedOver e w
  -- In the stable form, if the budgets of a group are more than some projects cost that all its members approve, some
  -- member approves at least as many funded projects.
  pub fair : IsTrue m.stable → GroupsGetTheirShare e w p
  -- In the stable form and the strict case no group and its demand are a violation of EJR by counting.
  pub ejr : IsTrue m.stable → IsStrict m e p → NoViolationByCounting e w
  -- Nor does any group fall short by counting: a form of EJR+ up to any project.
  pub ejr_plus : IsTrue m.stable → IsStrict m e p → SatisfiesEjrPlus ByCount e w
  -- Weights refute the outcome at most if they give Cover a weight, and Cover was not asked for.
  pub unrefuted : NothingRefutes m.cover e w
  -- In the stable form the same holds of weights that refute stable prices alone.
  pub unrefuted_stable : IsTrue m.stable → NothingRefutesStable m.cover e w
