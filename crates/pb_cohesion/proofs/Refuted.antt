-- Weights refute all prices for an outcome exactly where no test fails.
use Rattle.std.proofs.Common.{◌≡◌, ℕ, ◌<◌, ◌≤◌, ◌⊎◌, Bool, true, false, cond, List, [], ◌∷◌, refl, sym, ◌∙◌, ap, inl, inr, arith}
use Rattle.std.specs.Prelude.{◌↔◌, IfSome, nat_lt, not, Option, Some, None, slice_get}
use Rattle.std.proofs.lemmas.Bool.{cases_lt, false≢true, le-ltb, lt-ltb, not-false}
use Rattle.std.proofs.lemmas.Bool.Decides.{nat_tests}
use Rattle.pb_records.proofs.Lists.{filter-none}
use Rattle.pb_election.specs.Instance.{Instance, projects}
use Rattle.pb_election.specs.Outcome.{has}
use Rattle.pb_certificate.specs.Refutations.{Weights, row_of}
use Rattle.pb_cohesion.specs.FirstU.{FirstStableU, FirstU, SaysUnpriceable, SaysUnpriceableStable, costs_agree, proved, refutation_failures_of, refutation_verdict, verdict_by}
use Rattle.pb_cohesion.specs.RefutationFindings.{TellWhichRefutationTestsHold, TestsHoldBy, refutation_findings}
use Rattle.pb_cohesion.specs.Refutations.{CostsDiffer, NoPricesSupport, NoPricesWithCoverSupport, NoStablePricesSupport, NoStablePricesWithCoverSupport, Refutes, RefutesAsked, RefutesBy, RefutesStable, RowsSuit, at_least, at_most, budgets_counted, budgets_taken, counted, culprits_of_U1, gain, stable_budgets_counted, stable_gain, suits}
use Rattle.pb_cohesion.specs.declared.RefutationFailure.{RefutationFailure}
use Rattle.pb_cohesion.specs.declared.RefutationFailure.TheVariants.{U2, U3}
use Rattle.pb_cohesion.specs.declared.RefutationVerdict.TheVariants as verdict
use Rattle.pb_cohesion.proofs.Culprits.{append-nil, filter-nil, first-none, if-nil, map-nil, nil-append, nil-map}
use Rattle.pb_cohesion.proofs.Gains.{AmountsDiffer, costs-iff}
use Rattle.pb_cohesion.proofs.Refuting.{none_support, none_with_cover_support}
use Rattle.pb_cohesion.proofs.RefutingStable.{none_stable_support, none_stable_with_cover_support, stable-from-plain}
use Rattle.pb_cohesion.proofs.Verdicts.{less-iff, none-counted, through}

-- each row suits the outcome where there is no culprit
U1-iff : (e : Instance) (w : List Bool) (r : Weights) → (culprits_of_U1 e w r ≡ []) ↔ RowsSuit e w r
U1-iff e w r = (
  λ h c project.
      let high : c ≤ projects e = project.1 in
      not-false _
      (filter-nil (λ k. not (suits (has w k) (row_of r k))) (projects e) 1 h c project.0 (omega arith)),
  λ h. filter-none (λ k. not (suits (has w k) (row_of r k))) (projects e) 1
      (λ c low high. ap not (h c (low, omega arith))),
)

-- the costs contradict each other
disagree : (most least cover : ℕ)
    → (costs_agree most least cover ≡ false) ↔ AmountsDiffer most least cover
disagree most least cover = grind (arith, nat_tests)

U3-iff : (most least cover : ℕ) → (cond (costs_agree most least cover) (U3 ∷ []) [] ≡ [])
    ↔ AmountsDiffer most least cover
U3-iff most least cover = through (if-nil (costs_agree most least cover) U3) (disagree most least cover)

-- no test fails, where budgets are counted so often
tests-iff : (counted : ℕ) (e : Instance) (w : List Bool) (r : Weights)
    → (slice_get (refutation_failures_of counted e w r) 0 ≡ None)
    ↔ (RowsSuit e w r × (counted ≤ budgets_taken e w r) × CostsDiffer e w r)
tests-iff counted e w r = (
  λ h.
      let all : refutation_failures_of counted e w r ≡ [] = (first-none (refutation_failures_of counted e w r)).0 h in
      let last = append-nil _ _ all in
      let second = append-nil _ _ last.0 in (
        (U1-iff e w r).0 (map-nil _ _ second.0),
        (less-iff U2 (budgets_taken e w r) counted).0 second.1,
        (costs-iff e w r).1 ((U3-iff (at_most e w r) (at_least e w r) r.cover).0 last.1),
      ),
  λ v. (first-none (refutation_failures_of counted e w r)).1 (nil-append _ _ (nil-append _ _
      (nil-map _ _ ((U1-iff e w r).1 v.0))
      ((less-iff U2 (budgets_taken e w r) counted).1 v.1))
      ((U3-iff (at_most e w r) (at_least e w r) r.cover).1 ((costs-iff e w r).0 v.2))),
)

refutes_by-iff : (gains : ℕ → ℕ) (e : Instance) (w : List Bool) (r : Weights)
    → (slice_get (refutation_failures_of (counted gains e r) e w r) 0 ≡ None) ↔ RefutesBy gains e w r
refutes_by-iff gains e w r = (
  λ h.
      let tests = (tests-iff (counted gains e r) e w r).0 h in
      record { rows = tests.0; budgets = tests.1; costs = tests.2 },
  λ v. (tests-iff (counted gains e r) e w r).1 (v.rows, v.budgets, v.costs),
)

pub refutes-iff : (e : Instance) (w : List Bool) (r : Weights) → (FirstU e w r ≡ None) ↔ Refutes e w r
refutes-iff e w r = refutes_by-iff (gain e w r) e w r

pub refutes_stable-iff : (e : Instance) (w : List Bool) (r : Weights)
    → (FirstStableU e w r ≡ None) ↔ RefutesStable e w r
refutes_stable-iff e w r = refutes_by-iff (stable_gain e w r) e w r

-- what the findings tell
tells-by : (gains : ℕ → ℕ) (stable : Bool) (e : Instance) (w : List Bool) (r : Weights)
    → TestsHoldBy (counted gains e r) (refutation_findings stable e w r) ↔ RefutesBy gains e w r
tells-by gains stable e w r =
    let rows = through (none-counted (culprits_of_U1 e w r)) (U1-iff e w r) in
    let costs = costs-iff e w r in (
      λ h. record { rows = rows.0 h.0; budgets = h.1; costs = costs.1 h.2 },
      λ v. (rows.1 v.rows, v.budgets, costs.0 v.costs),
    )

pub findings-tell : (stable : Bool) (e : Instance) (w : List Bool) (r : Weights)
    → TellWhichRefutationTestsHold e w r (refutation_findings stable e w r)
findings-tell stable e w r = record {
  rows = through (none-counted (culprits_of_U1 e w r)) (U1-iff e w r);
  budgets = (λ h. h, λ h. h);
  stable_budgets = budgets_by stable;
  costs = (λ h. (costs-iff e w r).1 h, λ h. (costs-iff e w r).0 h);
  refuted = tells-by (gain e w r) stable e w r;
  refuted_stable = refuted_by stable;
}
  where
    budgets_by : (b : Bool) → IfSome (cond b (Some (stable_budgets_counted e w r)) None)
        (λ n. (n ≤ budgets_taken e w r) ↔ (stable_budgets_counted e w r ≤ budgets_taken e w r))
    budgets_by true = (λ h. h, λ h. h)
    budgets_by false = tt

    refuted_by : (b : Bool) → IfSome (cond b (Some (stable_budgets_counted e w r)) None)
        (λ n. TestsHoldBy n (refutation_findings stable e w r) ↔ RefutesStable e w r)
    refuted_by true = tells-by (stable_gain e w r) stable e w r
    refuted_by false = tt

-- what the verdict says of all prices, and of stable ones alone
says-plain : (stable : Bool) (cover : ℕ) (o n : Option RefutationFailure)
    → SaysUnpriceable (verdict_by stable cover o n) ↔ (o ≡ None)
says-plain stable cover None n = (λ h. refl, λ h. by_cover cover)
  where
    by_cover : (k : ℕ) → SaysUnpriceable (proved false k)
    by_cover k = grind (arith, nat_tests)
says-plain false cover (Some f) n = (λ h. elim h [ inl e ↦ cc | inr e ↦ cc ], λ h. cc)
says-plain true cover (Some f) None = (λ h. absurd (never cover h), λ h. cc)
  where
    never : (k : ℕ) → SaysUnpriceable (proved true k) → ⊥
    never k h = grind (arith, nat_tests)
says-plain true cover (Some f) (Some g) = (λ h. elim h [ inl e ↦ cc | inr e ↦ cc ], λ h. cc)

says-stable : (stable : Bool) (cover : ℕ) (o n : Option RefutationFailure)
    → SaysUnpriceableStable (verdict_by stable cover o n) ↔ ((stable ≡ true) × (n ≡ None) × (o ≡ None → ⊥))
says-stable stable cover None n = (λ h. absurd (never cover h), λ h. absurd (h.2 refl))
  where
    never : (k : ℕ) → SaysUnpriceableStable (proved false k) → ⊥
    never k h = grind (arith, nat_tests)
says-stable false cover (Some f) n = (λ h. elim h [ inl e ↦ cc | inr e ↦ cc ], λ h. cc)
says-stable true cover (Some f) None = (λ h. (refl, refl, λ e. cc), λ h. by_cover cover)
  where
    by_cover : (k : ℕ) → SaysUnpriceableStable (proved true k)
    by_cover k = grind (arith, nat_tests)
says-stable true cover (Some f) (Some g) = (λ h. elim h [ inl e ↦ cc | inr e ↦ cc ], λ h. cc)

pub says-refuted : (stable : Bool) (e : Instance) (w : List Bool) (r : Weights)
    → SaysUnpriceable (refutation_verdict stable e w r) ↔ Refutes e w r
says-refuted stable e w r =
    through (says-plain stable r.cover (FirstU e w r) (FirstStableU e w r)) (refutes-iff e w r)

pub says-refuted-stable : (stable : Bool) (e : Instance) (w : List Bool) (r : Weights)
    → SaysUnpriceableStable (refutation_verdict stable e w r)
    ↔ ((stable ≡ true) × RefutesStable e w r × (Refutes e w r → ⊥))
says-refuted-stable stable e w r =
    let says = says-stable stable r.cover (FirstU e w r) (FirstStableU e w r) in (
      λ h.
          let parts = says.0 h in
          (parts.0, (refutes_stable-iff e w r).0 parts.1, λ refutes. parts.2 ((refutes-iff e w r).1 refutes)),
      λ h. says.1 (h.0, (refutes_stable-iff e w r).1 h.1, λ none. h.2 ((refutes-iff e w r).0 none)),
    )

-- what the verdict says of what is asked about
pub says-asked : (stable : Bool) (e : Instance) (w : List Bool) (r : Weights)
    → (SaysUnpriceable (refutation_verdict stable e w r) ⊎ SaysUnpriceableStable (refutation_verdict stable e w r))
    ↔ RefutesAsked stable e w r
says-asked false e w r = (
  λ h. elim h [
    | inl plain ↦ (says-refuted false e w r).0 plain
    | inr stable ↦ absurd (false≢true ((says-refuted-stable false e w r).0 stable).0)
  ],
  λ refutes. inl ((says-refuted false e w r).1 refutes),
)
says-asked true e w r =
    (λ h. proved-stable h, λ refutes. by_plain (FirstU e w r) refl refutes)
  where
    proved-stable : SaysUnpriceable (refutation_verdict true e w r) ⊎ SaysUnpriceableStable (refutation_verdict true e w r)
        → RefutesStable e w r
    proved-stable (inl plain) = stable-from-plain e w r ((says-refuted true e w r).0 plain)
    proved-stable (inr stable) = ((says-refuted-stable true e w r).0 stable).1

    none-some : (f : RefutationFailure) → None ≡ Some f → ⊥
    none-some f h = cc

    by_plain : (o : Option RefutationFailure) → FirstU e w r ≡ o → RefutesStable e w r
        → SaysUnpriceable (refutation_verdict true e w r) ⊎ SaysUnpriceableStable (refutation_verdict true e w r)
    by_plain None is refutes = inl ((says-refuted true e w r).1 ((refutes-iff e w r).0 is))
    by_plain (Some f) is refutes =
        inr ((says-refuted-stable true e w r).1
        (refl, refutes, λ plain. none-some f (sym ((refutes-iff e w r).1 plain) ∙ is)))

-- which of the two it says goes by the weight of Cover
pub says-all : (stable : Bool) (cover : ℕ) (o n : Option RefutationFailure)
    → (verdict_by stable cover o n ≡ verdict.Unpriceable) ⊎ (verdict_by stable cover o n ≡ verdict.UnpriceableStable)
    → cover ≡ 0
says-all stable cover None n h = grind (arith, nat_tests)
says-all false cover (Some f) n h = elim h [ inl e ↦ cc | inr e ↦ cc ]
says-all true cover (Some f) None h = grind (arith, nat_tests)
says-all true cover (Some f) (Some g) h = elim h [ inl e ↦ cc | inr e ↦ cc ]

pub says-covered : (stable : Bool) (cover : ℕ) (o n : Option RefutationFailure)
    → (verdict_by stable cover o n ≡ verdict.UnpriceableUnderCover)
    ⊎ (verdict_by stable cover o n ≡ verdict.UnpriceableStableUnderCover) → 0 < cover
says-covered stable cover None n h = grind (arith, nat_tests)
says-covered false cover (Some f) n h = elim h [ inl e ↦ cc | inr e ↦ cc ]
says-covered true cover (Some f) None h = grind (arith, nat_tests)
says-covered true cover (Some f) (Some g) h = elim h [ inl e ↦ cc | inr e ↦ cc ]

-- what it says is so of all prices, and of all stable ones
pub says-none-support : (stable : Bool) (e : Instance) (w : List Bool) (r : Weights)
    → (refutation_verdict stable e w r ≡ verdict.Unpriceable → NoPricesSupport e w)
    × (refutation_verdict stable e w r ≡ verdict.UnpriceableUnderCover → NoPricesWithCoverSupport e w)
says-none-support stable e w r = (
  λ h p. none_support e w r ((says-refuted stable e w r).0 (inl h))
      (says-all stable r.cover (FirstU e w r) (FirstStableU e w r) (inl h)) p,
  λ h p. none_with_cover_support e w r ((says-refuted stable e w r).0 (inr h))
      (says-covered stable r.cover (FirstU e w r) (FirstStableU e w r) (inl h)) p,
)

pub says-none-stable : (stable : Bool) (e : Instance) (w : List Bool) (r : Weights)
    → (refutation_verdict stable e w r ≡ verdict.UnpriceableStable → NoStablePricesSupport e w)
    × (refutation_verdict stable e w r ≡ verdict.UnpriceableStableUnderCover → NoStablePricesWithCoverSupport e w)
says-none-stable stable e w r = (
  λ h p. none_stable_support e w r ((says-refuted-stable stable e w r).0 (inl h)).1
      (says-all stable r.cover (FirstU e w r) (FirstStableU e w r) (inr h)) p,
  λ h p. none_stable_with_cover_support e w r ((says-refuted-stable stable e w r).0 (inr h)).1
      (says-covered stable r.cover (FirstU e w r) (FirstStableU e w r) (inr h)) p,
)

-- The verdict by the first failure of the tests that are asked about. Where there is none, budgets that are counted too
-- often for all prices say that it is proved of stable ones alone.
pub verdict-failed : (stable : Bool) (e : Instance) (w : List Bool) (r : Weights) (f : RefutationFailure)
    → cond stable (FirstStableU e w r) (FirstU e w r) ≡ Some f → refutation_verdict stable e w r ≡ verdict.Failed f
verdict-failed false e w r f first = rw first refl
verdict-failed true e w r f first = by_plain (FirstU e w r) refl
  where
    by_plain : (o : Option RefutationFailure) → FirstU e w r ≡ o
        → verdict_by true r.cover (FirstU e w r) (FirstStableU e w r) ≡ verdict.Failed f
    by_plain (Some g) is = rw (is, first) refl
    by_plain None is =
        let none : FirstStableU e w r ≡ None =
        (refutes_stable-iff e w r).1 (stable-from-plain e w r ((refutes-iff e w r).0 is)) in
        cc

pub verdict-proved : (stable : Bool) (e : Instance) (w : List Bool) (r : Weights)
    → cond stable (FirstStableU e w r) (FirstU e w r) ≡ None
    → refutation_verdict stable e w r ≡ proved (nat_lt (budgets_taken e w r) (budgets_counted e w r)) r.cover
verdict-proved false e w r none =
    let tests = (tests-iff (budgets_counted e w r) e w r).0 none in
    rw (none, le-ltb (budgets_taken e w r) (budgets_counted e w r) tests.1) refl
verdict-proved true e w r none =
    let tests = (tests-iff (stable_budgets_counted e w r) e w r).0 none in
    elim (cases_lt (budgets_taken e w r) (budgets_counted e w r)) [
      | inl more ↦ by_plain (FirstU e w r) refl more
      | inr within ↦
          let plain : FirstU e w r ≡ None =
          (tests-iff (budgets_counted e w r) e w r).1 (tests.0, within, tests.2) in
          rw (plain, le-ltb (budgets_taken e w r) (budgets_counted e w r) within) refl
    ]
  where
    by_plain : (o : Option RefutationFailure) → FirstU e w r ≡ o → budgets_taken e w r < budgets_counted e w r
        → verdict_by true r.cover (FirstU e w r) (FirstStableU e w r)
        ≡ proved (nat_lt (budgets_taken e w r) (budgets_counted e w r)) r.cover
    by_plain (Some g) is more = rw (is, none, lt-ltb (budgets_taken e w r) (budgets_counted e w r) more) refl
    by_plain None is more =
        let tests = (tests-iff (budgets_counted e w r) e w r).0 is in
        absurd (omega (arith, tests.1))
