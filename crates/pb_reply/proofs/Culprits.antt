-- The projects that verdicts name are those of the election.
use Rattle.std.proofs.Common.{◌≡◌, ◌≤◌, ℕ, Bool, true, false, List, [], ◌∷◌, length, if◌then◌else◌, subst, sym, arith}
use Rattle.std.specs.Prelude.{◌==◌, nat_lt, ◌*◌, IfSome, Ok, Option, Some, None, map}
use Rattle.std.specs.List.{AllByRecursion}
use Rattle.pb_records.proofs.Each.{all-append, all-every, all-filter, all-first, all-flat_map, all-if, all-map}
use Rattle.pb_election.specs.Instance.{Instance, IsProject, IsSet, all_projects, cost_of_all, projects, voters}
use Rattle.pb_certificate.specs.Prices.{Prices}
use Rattle.pb_certificate.specs.Refutations.{Weights}
use Rattle.pb_cohesion.specs.Conditions.{culprits_of_C1, culprits_of_C2, culprits_of_C3, culprits_of_C4, culprits_of_Exhaustive}
use Rattle.pb_cohesion.specs.Failed.{NamesProject, RefutationNamesProject, ViolationNamesProject, refutation_failed, violation_failed}
use Rattle.pb_cohesion.specs.FirstU.{FirstStableU, FirstU, costs_agree, refutation_failures_of, refutation_verdict, verdict_by}
use Rattle.pb_cohesion.specs.FirstV.{FirstV, culprits_of_V2, culprits_of_V4, violation_failures_of, violation_verdict_of}
use Rattle.pb_cohesion.specs.Outcome.{total}
use Rattle.pb_cohesion.specs.Refutations.{at_least, at_most, budgets_counted, budgets_taken, culprits_of_U1, stable_budgets_counted}
use Rattle.pb_cohesion.specs.declared.RefutationFailure.{RefutationFailure}
use Rattle.pb_cohesion.specs.declared.RefutationFailure.TheVariants as refutation_failure
use Rattle.pb_cohesion.specs.declared.RefutationVerdict.{RefutationVerdict}
use Rattle.pb_cohesion.specs.declared.ViolationFailure.{ViolationFailure}
use Rattle.pb_cohesion.specs.declared.ViolationFailure.TheVariants as violation_failure
use Rattle.pb_cohesion.specs.declared.ViolationVerdict.{ViolationVerdict}
use Rattle.pb_cohesion.proofs.Sets.{set-all}
use Rattle.pb_price.specs.First.{First, failures_of, failures_of_budgets, failures_of_outcome, failures_of_payments, failures_of_supporters, verdict_of}
use Rattle.pb_price.specs.Findings.{findings}
use Rattle.pb_price.specs.Told.{PricesNameProject, first_told, price_failed}
use Rattle.pb_price.specs.declared.Failure.{Failure}
use Rattle.pb_price.specs.declared.Failure.TheVariants as failure
use Rattle.pb_price.specs.declared.Findings.{Findings}
use Rattle.pb_cohesion.specs.declared.Mode.{Mode}
use Rattle.pb_price.specs.declared.Verdict.{Verdict}
use Rattle.pb_price.proofs.Named.{among-projects, projects-are, unapproved-name}
use Rattle.pb_price.proofs.Told.{tell-first}
use Rattle.pb_records.specs.Loading.{Delivery}
use Rattle.pb_reply.specs.Inputs.{StatesPrices}
use Rattle.pb_input.specs.declared.InputName.{InputName}

-- a failure of prices names a project of the election, if any
abbrev pub Names : Instance → Failure → Type 0
Names e f = NamesProject e (price_failed f)

pub outcome-names : (m : Mode) (e : Instance) (w : List Bool) → AllByRecursion (Names e) (failures_of_outcome m e w)
outcome-names m e w =
    all-append (Names e) (if nat_lt e.limit (total e w) then failure.Feasible ∷ [] else [])
    (if m.exhaustive then map failure.Exhaustive (culprits_of_Exhaustive e w) else [])
    (all-if (Names e) (nat_lt e.limit (total e w)) (failure.Feasible ∷ []) [] (tt, tt) tt)
    (all-if (Names e) m.exhaustive (map failure.Exhaustive (culprits_of_Exhaustive e w)) []
    (all-map (Names e) failure.Exhaustive (culprits_of_Exhaustive e w) (among-projects e _ _)) tt)

pub budget-names : (m : Mode) (e : Instance) (p : Prices) → AllByRecursion (Names e) (failures_of_budgets m e p)
budget-names m e p = grind arith

pub payment-names : (e : Instance) (w : List Bool) (p : Prices) → AllByRecursion (Names e) (failures_of_payments e w p)
payment-names e w p =
    all-append (Names e) _ _
    (all-append (Names e) _ _
    (all-append (Names e) _ _
    (all-map (Names e) (λ (q : ℕ × ℕ). failure.C1 q.0 q.1) (culprits_of_C1 e p) (unapproved-name e p))
    (all-map (Names e) failure.C2 (culprits_of_C2 e p)
    (all-every (λ i. Names e (failure.C2 i)) (culprits_of_C2 e p) (λ i. tt))))
    (all-map (Names e) failure.C3 (culprits_of_C3 e w p) (among-projects e _ _)))
    (all-map (Names e) failure.C4 (culprits_of_C4 e w p) (among-projects e _ _))

pub supporter-names : (m : Mode) (e : Instance) (w : List Bool) (p : Prices)
    → AllByRecursion (Names e) (failures_of_supporters m e w p)
supporter-names m e w p = grind (arith, all-if, all-map, among-projects)

pub failures-name : (m : Mode) (e : Instance) (w : List Bool) (p : Prices)
    → AllByRecursion (Names e) (failures_of m e w p)
failures-name m e w p = grind (arith, all-append, outcome-names, budget-names, payment-names, supporter-names)

first-names : (e : Instance) (o : Option Failure) → IfSome o (Names e) → PricesNameProject e (verdict_of o)
first-names e None h = tt
first-names e (Some f) h = h

pub prices_name_projects : (m : Mode) (e : Instance) (w : List Bool) (p : Prices) (v : Verdict)
    → v ≡ verdict_of (First m e w p) → PricesNameProject e v
prices_name_projects m e w p v is = grind (arith, first-names, all-first, failures-name)

-- the same of the failures of a violation certificate
abbrev pub NamesDemanded : Instance → ViolationFailure → Type 0
NamesDemanded e f = NamesProject e (violation_failed f)

pub missing-name : (e : Instance) (s t : List ℕ) → IsSet 1 (projects e) t
    → AllByRecursion (λ (q : ℕ × ℕ). IsProject e q.1) (culprits_of_V2 e s t)
missing-name e s t set =
    all-flat_map (λ (q : ℕ × ℕ). IsProject e q.1) _ s
    (all-every _ s
    (λ i. all-map (λ (q : ℕ × ℕ). IsProject e q.1) (λ j. (i, j)) _ (all-filter (IsProject e) _ t demanded)))
  where
    demanded : AllByRecursion (IsProject e) t
    demanded = set-all (IsProject e) 1 (projects e) t set (λ j low high. (low, high))

pub violation-names : (worth : ℕ → ℕ) (e : Instance) (w : List Bool) (s t : List ℕ) → IsSet 1 (projects e) t
    → AllByRecursion (NamesDemanded e) (violation_failures_of worth e w s t)
violation-names worth e w s t set =
    all-append (NamesDemanded e) _ _
    (all-append (NamesDemanded e) _ _
    (all-append (NamesDemanded e) _ _
    (all-if (NamesDemanded e) (length s == 0) (violation_failure.V1 ∷ []) [] (tt, tt) tt)
    (all-map (NamesDemanded e) (λ (q : ℕ × ℕ). violation_failure.V2 q.0 q.1) (culprits_of_V2 e s t)
    (missing-name e s t set)))
    (all-if (NamesDemanded e) (nat_lt (length s * e.limit) (voters e * cost_of_all e t)) (violation_failure.V3 ∷ []) []
    (tt, tt) tt))
    (all-map (NamesDemanded e) violation_failure.V4 (culprits_of_V4 worth e w s t)
    (all-every (λ i. NamesDemanded e (violation_failure.V4 i)) (culprits_of_V4 worth e w s t) (λ i. tt)))

first-demanded : (e : Instance) (o : Option ViolationFailure) → IfSome o (NamesDemanded e)
    → ViolationNamesProject e (violation_verdict_of o)
first-demanded e None h = tt
first-demanded e (Some f) h = h

pub violation_names_projects : (worth : ℕ → ℕ) (e : Instance) (w : List Bool) (s t : List ℕ) (v : ViolationVerdict)
    → v ≡ violation_verdict_of (FirstV worth e w s t) → IsSet 1 (projects e) t → ViolationNamesProject e v
violation_names_projects worth e w s t v is set = grind (arith, first-demanded, all-first, violation-names)

-- the same of the failures of a refutation
abbrev pub NamesWeighted : Instance → RefutationFailure → Type 0
NamesWeighted e f = NamesProject e (refutation_failed f)

pub refutation-names : (counted : ℕ) (e : Instance) (w : List Bool) (r : Weights)
    → AllByRecursion (NamesWeighted e) (refutation_failures_of counted e w r)
refutation-names counted e w r =
    all-append (NamesWeighted e) _ _
    (all-append (NamesWeighted e) _ _
    (all-map (NamesWeighted e) refutation_failure.U1 (culprits_of_U1 e w r)
    (all-filter (IsProject e) _ (all_projects e) (projects-are e)))
    (all-if (NamesWeighted e) (nat_lt (budgets_taken e w r) counted) (refutation_failure.U2 ∷ []) []
    (tt, tt) tt))
    (all-if (NamesWeighted e) (costs_agree (at_most e w r) (at_least e w r) r.cover) (refutation_failure.U3 ∷ []) []
    (tt, tt) tt)

first-weighted : (e : Instance) (stable : Bool) (cover : ℕ) (o n : Option RefutationFailure)
    → IfSome o (NamesWeighted e) → IfSome n (NamesWeighted e) → RefutationNamesProject e (verdict_by stable cover o n)
first-weighted e stable cover None n h k = grind arith
first-weighted e false cover (Some f) n h k = h
first-weighted e true cover (Some f) None h k = grind arith
first-weighted e true cover (Some f) (Some g) h k = k

pub refutation_names_projects : (stable : Bool) (e : Instance) (w : List Bool) (r : Weights) (v : RefutationVerdict)
    → v ≡ refutation_verdict stable e w r → RefutationNamesProject e v
refutation_names_projects stable e w r v is =
    subst (RefutationNamesProject e) (sym is)
    (first-weighted e stable r.cover (FirstU e w r) (FirstStableU e w r)
    (all-first (NamesWeighted e) _ (refutation-names (budgets_counted e w r) e w r))
    (all-first (NamesWeighted e) _ (refutation-names (stable_budgets_counted e w r) e w r)))

-- the denominator of prices that are stated
pub denominator-low : (input : InputName) (e : Instance) (d : Delivery) (p : Prices) → StatesPrices input e d (Ok p)
    → 1 ≤ p.denominator
denominator-low input e d p given = grind arith

-- the verdict that the findings on prices tell names a project of the election, if any
pub told_names_project : (m : Mode) (e : Instance) (w : List Bool) (p : Prices) (f : Findings) → 1 ≤ p.denominator
    → f ≡ findings e w p → PricesNameProject e (verdict_of (first_told m f))
told_names_project m e w p f low is = grind (arith, prices_name_projects, tell-first)
