-- The tests of a refutation, in their order.
use Rattle.std.specs.Prelude.{◌≡◌, ◌⊎◌, ◌&&◌, ◌||◌, ◌==◌, nat_lt, if◌then◌else◌, ℕ, Bool, true, false, List, [], ◌∷◌, ◌++◌, map, slice_get, Option, Some, None}
use Rattle.pb_election.specs.Instance.{Instance}
use Rattle.pb_certificate.specs.Refutations.{Weights}
use Rattle.pb_cohesion.specs.Refutations.{at_least, at_most, budgets_counted, budgets_taken, culprits_of_U1, stable_budgets_counted}
use Rattle.pb_cohesion.specs.declared.RefutationFailure.{RefutationFailure}
use Rattle.pb_cohesion.specs.declared.RefutationFailure.TheVariants.{U1, U2, U3}
use Rattle.pb_cohesion.specs.declared.RefutationVerdict.{RefutationVerdict}
use Rattle.pb_cohesion.specs.declared.RefutationVerdict.TheVariants as verdict

-- the costs don't contradict each other
abbrev pub costs_agree : ℕ → ℕ → ℕ → Bool
costs_agree most least cover = nat_lt least most || ((least == most) && (cover == 0))

-- each way in which weights are no refutation, in the order of the tests, where budgets are counted so often
abbrev pub refutation_failures_of : ℕ → Instance → List Bool → Weights → List RefutationFailure
refutation_failures_of counted e w r =
    map U1 (culprits_of_U1 e w r)
    ++ (if nat_lt (budgets_taken e w r) counted then U2 ∷ [] else [])
    ++ (if costs_agree (at_most e w r) (at_least e w r) r.cover then U3 ∷ [] else [])

-- the first of them, where there is one: of a refutation of all prices, and of all stable prices
abbrev pub FirstU : Instance → List Bool → Weights → Option RefutationFailure
FirstU e w r = slice_get (refutation_failures_of (budgets_counted e w r) e w r) 0

abbrev pub FirstStableU : Instance → List Bool → Weights → Option RefutationFailure
FirstStableU e w r = slice_get (refutation_failures_of (stable_budgets_counted e w r) e w r) 0

-- what is proved where no test fails, of all prices or of stable ones: none support the outcome, or none under Cover
-- where that has a weight
abbrev pub proved : Bool → ℕ → RefutationVerdict
proved stable cover =
    if stable then (if cover == 0 then verdict.UnpriceableStable else verdict.UnpriceableStableUnderCover)
    else (if cover == 0 then verdict.Unpriceable else verdict.UnpriceableUnderCover)

-- The verdict, by the first failure for all prices and that for stable ones: what is proved of all prices, or else, where
-- stable prices are asked about, what is proved of those, or else the first test that fails for those asked about.
abbrev pub verdict_by : Bool → ℕ → Option RefutationFailure → Option RefutationFailure → RefutationVerdict
verdict_by stable cover None of_stable = proved false cover
verdict_by false cover (Some f) of_stable = verdict.Failed f
verdict_by true cover (Some f) None = proved true cover
verdict_by true cover (Some f) (Some g) = verdict.Failed g

abbrev pub refutation_verdict : Bool → Instance → List Bool → Weights → RefutationVerdict
refutation_verdict stable e w r = verdict_by stable r.cover (FirstU e w r) (FirstStableU e w r)

-- the verdicts that speak of all prices, and those that speak of stable ones alone
abbrev pub SaysUnpriceable : RefutationVerdict → Type 0
SaysUnpriceable v = (v ≡ verdict.Unpriceable) ⊎ (v ≡ verdict.UnpriceableUnderCover)

abbrev pub SaysUnpriceableStable : RefutationVerdict → Type 0
SaysUnpriceableStable v = (v ≡ verdict.UnpriceableStable) ⊎ (v ≡ verdict.UnpriceableStableUnderCover)
