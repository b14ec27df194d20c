-- The projects that findings name are those of the election.
use Rattle.std.proofs.Common.{ℕ, Bool, List, [], arith}
use Rattle.std.specs.Prelude.{ℤ, pos, ◌-ℤ◌, IfSome, Option, Some, None, filter, option_map}
use Rattle.std.specs.List.{AllByRecursion}
use Rattle.std.specs.Option.{option_or}
use Rattle.pb_records.proofs.Each.{all-every, all-filter, all-first, all-flat_map, all-map, all-range}
use Rattle.pb_election.specs.Instance.{Instance, IsProject, all_projects, projects, supporters}
use Rattle.pb_certificate.specs.Prices.{Prices}
use Rattle.pb_cohesion.specs.Amounts.{budget_limit, cost, left, paid}
use Rattle.pb_cohesion.specs.Conditions.{culprits_of_C1, culprits_of_C3, culprits_of_C4, culprits_of_C5, culprits_of_Exhaustive, culprits_of_S5, most_of, sum_ℤ}
use Rattle.pb_cohesion.specs.Outcome.{unfunded}
use Rattle.pb_price.specs.Condition.{FindingNamesProjects, FindingsNameProjects, FoundNamesProjects, found}
use Rattle.pb_price.specs.Findings.{comparison, finding, findings, total_grains}
use Rattle.pb_price.specs.declared.condition.Condition.{Condition}
use Rattle.pb_price.specs.declared.condition.Condition.TheVariants as condition

-- a finding on culprits and candidates that are projects
named-first : (e : Instance) (bound : ℕ → ℕ) (amount : ℕ → ℤ) (o : Option ℕ) → IfSome o (IsProject e)
    → IfSome (option_map (comparison bound amount) o) (λ m. IsProject e m.at)
named-first e bound amount None h = tt
named-first e bound amount (Some x) h = h

named-either : (e : Instance) (o r : Option ℕ) → IfSome o (IsProject e) → IfSome r (IsProject e)
    → IfSome (option_or o r) (IsProject e)
named-either e None r h k = k
named-either e (Some x) r h k = h

names-projects : (e : Instance) (culprits candidates : List ℕ) (bound : ℕ → ℕ) (amount : ℕ → ℤ)
    → AllByRecursion (IsProject e) culprits → AllByRecursion (IsProject e) candidates
    → FindingNamesProjects e (finding culprits candidates bound amount)
names-projects e culprits candidates bound amount of_culprits of_candidates = record {
  first = all-first (IsProject e) culprits of_culprits;
  shown = grind (arith, named-first, named-either, all-first, all-filter);
}

pub projects-are : (e : Instance) → AllByRecursion (IsProject e) (all_projects e)
projects-are e = all-range (IsProject e) 1 (projects e) (λ j low high. (low, omega arith))

pub among-projects : (e : Instance) (q r : ℕ → Bool) → AllByRecursion (IsProject e) (filter q (filter r (all_projects e)))
among-projects e q r = grind (arith, all-filter, projects-are)

pub unapproved-name : (e : Instance) (p : Prices) → AllByRecursion (λ (q : ℕ × ℕ). IsProject e q.1) (culprits_of_C1 e p)
unapproved-name e p = grind (arith, all-flat_map, all-every, all-map, all-filter, projects-are)

pub findings_name_projects : (e : Instance) (w : List Bool) (p : Prices) → FindingsNameProjects e (findings e w p)
findings_name_projects e w p = record { each = names }
  where
    unfunded-are : AllByRecursion (IsProject e) (unfunded e w)
    unfunded-are = all-filter (IsProject e) _ (all_projects e) (projects-are e)

    names : (c : Condition) → FoundNamesProjects e (found (findings e w p) c)
    names condition.Feasible = tt
    names condition.Exhaustive = names-projects e (culprits_of_Exhaustive e w) (unfunded e w) (cost e p)
        (λ c. pos (budget_limit e p) -ℤ pos (total_grains e w p)) (among-projects e _ _) unfunded-are
    names condition.Cover = tt
    names condition.C1 = all-first (λ (q : ℕ × ℕ). IsProject e q.1) (culprits_of_C1 e p) (unapproved-name e p)
    names condition.C2 = tt
    names condition.C3 = names-projects e (culprits_of_C3 e w p) [] (cost e p) (λ c. pos (paid e p c))
        (among-projects e _ _) tt
    names condition.C4 = names-projects e (culprits_of_C4 e w p) [] (λ c. 0) (λ c. pos (paid e p c))
        (among-projects e _ _) tt
    names condition.C5 = names-projects e (culprits_of_C5 e w p) (unfunded e w) (cost e p)
        (λ c. sum_ℤ (left e p) (supporters e c)) (among-projects e _ _) unfunded-are
    names condition.S5 = names-projects e (culprits_of_S5 e w p) (unfunded e w) (cost e p)
        (λ c. sum_ℤ (most_of e p) (supporters e c)) (among-projects e _ _) unfunded-are
