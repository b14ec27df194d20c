-- Which of the three cases it is that a yes says of groups, and that it is so.
use Rattle.std.proofs.Common.{◌≡◌, ◌<◌, ◌*◌, ℕ, Bool, refl, cond, inl, inr, arith}
use Rattle.std.proofs.lemmas.Bool.{cases_Bool, cases_lt, le-ltb, lt-ltb}
use Rattle.pb_election.specs.Instance.{Instance, voters}
use Rattle.pb_certificate.specs.Prices.{Prices}
use Rattle.pb_cohesion.specs.Amounts.{beta, budget_limit}
use Rattle.pb_price.specs.OnGroups.{IsCaseOf, groups_by, on_groups}
use Rattle.pb_cohesion.specs.declared.Mode.{Mode}
use Rattle.pb_price.specs.declared.OnGroups.TheVariants.{Strict, Weak, Little}

-- the case, by the budgets and the limit
little-is : (exhaustive : Bool) (b l : ℕ) → b < l → on_groups exhaustive b l ≡ Little
little-is exhaustive b l less = rw (lt-ltb b l less) refl

more-is : (exhaustive : Bool) (b l : ℕ) → l < b → on_groups exhaustive b l ≡ Strict
more-is exhaustive b l more = rw (le-ltb b l (omega arith), lt-ltb l b more) refl

equal-is : (exhaustive : Bool) (b l : ℕ) → b ≡ l → on_groups exhaustive b l ≡ (cond exhaustive Strict Weak)
equal-is exhaustive b l same = rw (le-ltb b l (omega arith), le-ltb l b (omega arith)) refl

pub is_case : (m : Mode) (e : Instance) (p : Prices) → IsCaseOf m e p (groups_by m e p)
is_case m e p = elim (cases_lt (voters e * beta p) (budget_limit e p)) [
  | inl less ↦
      let is : groups_by m e p ≡ Little = little-is m.exhaustive (voters e * beta p) (budget_limit e p) less in
      record { strict = grind arith; weak = grind arith; little = grind arith }
  | inr enough ↦ elim (cases_lt (budget_limit e p) (voters e * beta p)) [
    | inl more ↦
        let is : groups_by m e p ≡ Strict = more-is m.exhaustive (voters e * beta p) (budget_limit e p) more in
        record { strict = grind arith; weak = grind arith; little = grind arith }
    | inr most ↦
        let is = equal-is m.exhaustive (voters e * beta p) (budget_limit e p) (omega arith) in
        record { strict = grind (arith, cases_Bool); weak = grind (arith, cases_Bool); little = grind (arith, cases_Bool) }
  ]
]
