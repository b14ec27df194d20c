-- What a verdict says of every group of supporters.
use Rattle.std.proofs.Common.{◌≡◌, ◌≤◌, ◌*◌, ℕ, Bool, true, false, List, refl, sym, ◌∙◌, ap, inl, inr, arith}
use Rattle.std.specs.Prelude.{◌⊎◌, IsFalse, IsTrue, Ok, Option, Result, Some, None}
use Rattle.std.proofs.lemmas.Bool.{cases_Bool}
use Rattle.pb_election.specs.Instance.{Instance, voters}
use Rattle.pb_certificate.specs.Prices.{Prices}
use Rattle.pb_certificate.specs.declared.violations.measure.Measure.TheVariants.{ByCount}
use Rattle.pb_cohesion.specs.Amounts.{beta, budget_limit}
use Rattle.pb_cohesion.specs.Conditions.{C5, S5}
use Rattle.pb_cohesion.specs.EveryGroup.{BudgetsAreWithinReach, BudgetsReachTheLimit, GroupsGetTheirShare, NoGroupHasMoreLeft, NoGroupIsPassedOver, NoViolationByCounting, NothingBlocks, SharesAreWithinReach, SupportersBlock, SupportersHaveMoreLeft}
use Rattle.pb_cohesion.specs.Refutations.{NothingRefutes, NothingRefutesStable}
use Rattle.pb_cohesion.specs.Short.{SatisfiesEjrPlus}
use Rattle.pb_cohesion.proofs.EjrPlus.{stable_has_ejr_plus, stable_has_ejr_plus_at_limit}
use Rattle.pb_cohesion.proofs.Exhausted.{no_violation_at_limit, none_passed_over_at_limit}
use Rattle.pb_cohesion.proofs.Justified.{stable_has_no_violation, stable_is_fair}
use Rattle.pb_cohesion.proofs.Plain as plain
use Rattle.pb_cohesion.proofs.Reaches.{within_reach}
use Rattle.pb_cohesion.proofs.Refuting.{nothing_refutes}
use Rattle.pb_cohesion.proofs.RefutingStable.{nothing_refutes_stable}
use Rattle.pb_cohesion.proofs.Shares.{demands_reach, no_demand_passed_over, none_passed_over, shares_reach}
use Rattle.pb_cohesion.proofs.Stable as stable
use Rattle.pb_price.proofs.FirstFalse.{first-false, is-less, supports-iff}
use Rattle.pb_price.specs.Answers.{IsVerdictOn}
use Rattle.pb_price.specs.First.{First, verdict_of}
use Rattle.pb_price.specs.OnGroups.{HoldsOfGroups, IsCaseOf, IsStrict, groups_by}
use Rattle.pb_price.specs.Promises.{YesPromises}
use Rattle.pb_price.specs.Supports.{Supports}
use Rattle.pb_price.specs.declared.OnGroups.{OnGroups}
use Rattle.pb_price.specs.declared.OnGroups.TheVariants.{Strict, Weak, Little}
use Rattle.pb_price.proofs.SaidOfGroups.{is_case}
use Rattle.pb_cohesion.specs.declared.Mode.{Mode}
use Rattle.pb_price.specs.declared.Failure.{Failure}
use Rattle.pb_price.specs.declared.Failure.TheVariants as failure
use Rattle.pb_price.specs.declared.Verdict.{Verdict}
use Rattle.pb_price.specs.declared.Verdict.TheVariants as verdict

pub plain-yes : (m : Mode) (e : Instance) (w : List Bool) (p : Prices) → First m e w p ≡ None → m.stable ≡ false
    → NoGroupHasMoreLeft e w p
plain-yes m e w p none is_plain s c unfunded group =
    let yes' : Supports m e w p = (supports-iff m e w p).0 none in
    plain.every_group e w p s c yes'.within_budget (yes'.plain is_plain) unfunded group

pub plain-no : (m : Mode) (e : Instance) (w : List Bool) (p : Prices) (c : ℕ) → First m e w p ≡ Some (failure.C5 c)
    → SupportersHaveMoreLeft e p c
plain-no m e w p c h =
    let there = (first-false m e w p (failure.C5 c) h).false_there in (plain.supporters-group e c, there.0.1)

pub stable-yes : (m : Mode) (e : Instance) (w : List Bool) (p : Prices) → First m e w p ≡ None → m.stable ≡ true
    → NothingBlocks e w p
stable-yes m e w p none is_stable s c x blocks =
    let yes' : Supports m e w p = (supports-iff m e w p).0 none in
    stable.none_blocks e w p s c x (yes'.stable_form is_stable) blocks

pub stable-no : (m : Mode) (e : Instance) (w : List Bool) (p : Prices) (c : ℕ) → First m e w p ≡ Some (failure.S5 c)
    → SupportersBlock e w p c
stable-no m e w p c h =
    let found = first-false m e w p (failure.S5 c) h in
    let there = found.false_there in
    stable.block-there e w p c (found.earlier_hold.none_wasted (omega arith)) there.0.0
    ((is-less _ _).1 there.0.1)

pub budgets : (m : Mode) (e : Instance) (w : List Bool) (p : Prices) → First m e w p ≡ None
    → BudgetsAreWithinReach e w p
budgets m e w p none s c unfunded group = grind (arith, supports-iff, cases_Bool, within_reach)

pub shares : (m : Mode) (e : Instance) (w : List Bool) (p : Prices) → 1 ≤ p.denominator → First m e w p ≡ None
    → BudgetsReachTheLimit e p → SharesAreWithinReach e w
shares m e w p low none reached s c unfunded group = grind (arith, supports-iff, cases_Bool, shares_reach)

pub passes-nobody-over : (m : Mode) (e : Instance) (w : List Bool) (p : Prices) → 1 ≤ p.denominator
    → First m e w p ≡ None → IsStrict m e p → NoGroupIsPassedOver e w
passes-nobody-over m e w p low none (inl cover) s c passed = grind (arith, supports-iff, cases_Bool, none_passed_over)
passes-nobody-over m e w p low none (inr full) s c passed =
    let yes' : Supports m e w p = (supports-iff m e w p).0 none in
    none_passed_over_at_limit e w p s c low yes'.approved yes'.within_budget yes'.paid_for yes'.none_wasted
    (yes'.exhausts full.1) full.0 passed

-- what the case says of groups is so
pub holds-of : (m : Mode) (e : Instance) (w : List Bool) (p : Prices) → 1 ≤ p.denominator → First m e w p ≡ None
    → (said : OnGroups) → IsCaseOf m e p said → HoldsOfGroups said e w
holds-of m e w p low none Strict is = passes-nobody-over m e w p low none (is.strict.0 refl)
holds-of m e w p low none Weak is =
    shares m e w p low none (let full : voters e * beta p ≡ budget_limit e p = (is.weak.0 refl).0 in omega arith)
holds-of m e w p low none Little is = tt

pub groups : (m : Mode) (e : Instance) (w : List Bool) (p : Prices) → 1 ≤ p.denominator → First m e w p ≡ None
    → HoldsOfGroups (groups_by m e p) e w
groups m e w p low none = holds-of m e w p low none (groups_by m e p) (is_case m e p)

-- one of the two conditions of the supporters holds
either-form : (stable : Bool) (e : Instance) (w : List Bool) (p : Prices) → (IsFalse stable → C5 e w p)
    → (IsTrue stable → S5 e w p) → C5 e w p ⊎ S5 e w p
either-form false e w p in_plain in_stable = inl (in_plain refl)
either-form true e w p in_plain in_stable = inr (in_stable refl)

pub unrefuted : (m : Mode) (e : Instance) (w : List Bool) (p : Prices) → 1 ≤ p.denominator → First m e w p ≡ None
    → NothingRefutes m.cover e w
unrefuted m e w p low none =
    let yes' : Supports m e w p = (supports-iff m e w p).0 none in
    nothing_refutes e w p m.cover (
      low,
      yes'.approved,
      yes'.within_budget,
      yes'.paid_for,
      yes'.none_wasted,
      either-form m.stable e w p yes'.plain yes'.stable_form,
    ) yes'.covers

pub unrefuted-stable : (m : Mode) (e : Instance) (w : List Bool) (p : Prices) → 1 ≤ p.denominator
    → First m e w p ≡ None → m.stable ≡ true → NothingRefutesStable m.cover e w
unrefuted-stable m e w p low none is_stable =
    let yes' : Supports m e w p = (supports-iff m e w p).0 none in
    nothing_refutes_stable e w p m.cover (
      low,
      yes'.approved,
      yes'.within_budget,
      yes'.paid_for,
      yes'.none_wasted,
      yes'.stable_form is_stable,
    ) yes'.covers

pub fair : (m : Mode) (e : Instance) (w : List Bool) (p : Prices) → First m e w p ≡ None → m.stable ≡ true
    → GroupsGetTheirShare e w p
fair m e w p none is_stable s t group projects approve rich =
    let yes' : Supports m e w p = (supports-iff m e w p).0 none in
    stable_is_fair e w p s t yes'.approved yes'.paid_for yes'.none_wasted (yes'.stable_form is_stable) group projects
    approve rich

pub no-violation : (m : Mode) (e : Instance) (w : List Bool) (p : Prices) → 1 ≤ p.denominator
    → First m e w p ≡ None → m.stable ≡ true → IsStrict m e p → NoViolationByCounting e w
no-violation m e w p low none is_stable (inl cover) s t group projects violation =
    let yes' : Supports m e w p = (supports-iff m e w p).0 none in
    stable_has_no_violation e w p s t yes'.approved yes'.paid_for yes'.none_wasted (yes'.stable_form is_stable)
    cover group projects violation
no-violation m e w p low none is_stable (inr full) s t group projects violation =
    let yes' : Supports m e w p = (supports-iff m e w p).0 none in
    no_violation_at_limit e w p s t low yes'.approved yes'.within_budget yes'.paid_for yes'.none_wasted
    (yes'.stable_form is_stable) (yes'.exhausts full.1) full.0 group projects violation

pub ejr-plus : (m : Mode) (e : Instance) (w : List Bool) (p : Prices) → 1 ≤ p.denominator → First m e w p ≡ None
    → m.stable ≡ true → IsStrict m e p → SatisfiesEjrPlus ByCount e w
ejr-plus m e w p low none is_stable (inl cover) s c short =
    let yes' : Supports m e w p = (supports-iff m e w p).0 none in
    stable_has_ejr_plus e w p s c yes'.approved yes'.none_wasted (yes'.stable_form is_stable) cover short
ejr-plus m e w p low none is_stable (inr full) s c short =
    let yes' : Supports m e w p = (supports-iff m e w p).0 none in
    stable_has_ejr_plus_at_limit e w p s c low yes'.approved yes'.within_budget yes'.paid_for yes'.none_wasted
    (yes'.stable_form is_stable) (yes'.exhausts full.1) full.0 short

-- a verdict tells its failure
supported-none : (o : Option Failure) → verdict_of o ≡ verdict.Supported → o ≡ None
supported-none None h = refl
supported-none (Some f) h = cc

failed-some : (o : Option Failure) (f : Failure) → verdict_of o ≡ verdict.Failed f → o ≡ Some f
failed-some None f h = cc
failed-some (Some g) f h = let same : g ≡ f = cc in ap Some same

-- where no condition fails, all promises of a yes hold
pub all-promised : (m : Mode) (e : Instance) (w : List Bool) (p : Prices) → 1 ≤ p.denominator → First m e w p ≡ None
    → YesPromises m e w p
all-promised m e w p low none = record {
  plain = plain-yes m e w p none;
  stable = stable-yes m e w p none;
  budgets = budgets m e w p none;
  groups = groups m e w p low none;
  shares = shares m e w p low none;
  pjr_plus = passes-nobody-over m e w p low none;
  demands = λ reached. demands_reach e w (shares m e w p low none reached);
  pjr = λ strict. no_demand_passed_over e w (passes-nobody-over m e w p low none strict);
  fair = fair m e w p none;
  ejr = no-violation m e w p low none;
  ejr_plus = ejr-plus m e w p low none;
  unrefuted = unrefuted m e w p low none;
  unrefuted_stable = unrefuted-stable m e w p low none;
}

-- the verdict by the first failure, with what it says of every group
pub on-prices : (m : Mode) (e : Instance) (w : List Bool) (p : Prices) (v : Verdict) → 1 ≤ p.denominator
    → v ≡ verdict_of (First m e w p) → IsVerdictOn m e w p v
on-prices m e w p v low is = record {
  first = is;
  supported = (λ h. (supports-iff m e w p).0 (none h), λ s. is ∙ ap verdict_of ((supports-iff m e w p).1 s));
  yes = λ h. all-promised m e w p low (none h);
  plain_no = λ c h. plain-no m e w p c (failed-some (First m e w p) (failure.C5 c) (sym is ∙ h));
  stable_no = λ c h. stable-no m e w p c (failed-some (First m e w p) (failure.S5 c) (sym is ∙ h));
}
  where
    none : v ≡ verdict.Supported → First m e w p ≡ None
    none h = supported-none (First m e w p) (sym is ∙ h)

-- what an answer says of its verdict
pub same-answer : {E : Type 0} (v x : Verdict) → ◌≡◌ {A = Result Verdict E} (Ok v) (Ok x) → v ≡ x
same-answer v x h = cc
