-- What is found can be told.
use Rattle.std.proofs.Common.{◌≡◌, ℕ, Bool, List, [], ◌∷◌, ◌≤◌, ◌^◌, Option, map, subst, sym, arith}
use Rattle.std.specs.Prelude.{All, IfSome, Ok, Some, None, slice_get}
use Rattle.std.specs.List.{AllByRecursion}
use Rattle.std.proofs.lemmas.List.Elements.{All-from_recursion, recursion_from_All}
use Rattle.pb_records.specs.Loading.{Delivery}
use Rattle.pb_records.proofs.Each.{all-filter, all-first}
use Rattle.pb_election.specs.Instance.{Instance, IsProject, IsSet, all_projects, projects}
use Rattle.pb_certificate.specs.Prices.{Prices}
use Rattle.pb_certificate.specs.Refutations.{Weights}
use Rattle.pb_certificate.specs.declared.violations.measure.Measure.{Measure}
use Rattle.pb_cohesion.specs.Closest.{AreAllFigures, wanted}
use Rattle.pb_cohesion.specs.FirstV.{culprits_of_V2}
use Rattle.pb_cohesion.specs.Refutations.{culprits_of_U1}
use Rattle.pb_cohesion.specs.Shown.{AreSmall, first_short, shown, verdict_by}
use Rattle.pb_cohesion.specs.declared.GroupFigures.{GroupFigures}
use Rattle.pb_cohesion.specs.declared.GroupsVerdict.{GroupsVerdict}
use Rattle.pb_cohesion.specs.declared.Mode.{Mode}
use Rattle.pb_cohesion.proofs.OneShown.{all-projects}
use Rattle.pb_price.specs.Condition.{FindingsNameProjects}
use Rattle.pb_price.specs.Findings.{findings}
use Rattle.pb_price.specs.First.{First, verdict_of}
use Rattle.pb_price.specs.Told.{PricesNameProject, first_told}
use Rattle.pb_price.specs.declared.Findings.{Findings}
use Rattle.pb_price.proofs.Named.{findings_name_projects, projects-are}
use Rattle.pb_price.proofs.Told.{tell-first}
use Rattle.pb_json.specs.Groups.{CanBeTold}
use Rattle.pb_json.proofs.Shown.{first_told as first_of, shown_told}
use Rattle.pb_input.specs.declared.InputName.{InputName}
use Rattle.pb_reply.specs.Inputs.{StatesPrices}
use Rattle.pb_reply.specs.Named.{GroupsNameProject}
use Rattle.pb_reply.proofs.Culprits.{denominator-low, missing-name, told_names_project}
use Rattle.pb_report.specs.CanBeTold.{FindingsCanBeTold}

pub missing_names_projects : (e : Instance) (s t : List ℕ) → IsSet 1 (projects e) t
    → IfSome (slice_get (culprits_of_V2 e s t) 0) (λ q. IsProject e q.1)
missing_names_projects e s t set =
    all-first (λ (q : ℕ × ℕ). IsProject e q.1) (culprits_of_V2 e s t) (missing-name e s t set)

pub misplaced_names_projects : (e : Instance) (w : List Bool) (r : Weights)
    → IfSome (slice_get (culprits_of_U1 e w r) 0) (IsProject e)
misplaced_names_projects e w r =
    all-first (IsProject e) (culprits_of_U1 e w r) (all-filter (IsProject e) _ (all_projects e) (projects-are e))

-- findings on prices can be told
pub findings_can_be_told : (input : InputName) (e : Instance) (w : List Bool) (d : Delivery) (p : Prices) (f : Findings)
    → StatesPrices input e d (Ok p) → f ≡ findings e w p → FindingsCanBeTold e f
findings_can_be_told input e w d p f states is = record {
  unit = unit-of p f (denominator-low input e d p states) is;
  projects = subst (λ (g : Findings). FindingsNameProjects e g) (sym is) (findings_name_projects e w p);
  verdicts = verdicts;
}
  where
    verdicts : (m : Mode) → PricesNameProject e (verdict_of (first_told m f))
    verdicts m = told_names_project m e w p f (denominator-low input e d p states) is

    unit-of : (p : Prices) (f : Findings) → 1 ≤ p.denominator → f ≡ findings e w p → 10 ^ 6 ≤ f.grains_per_unit
    unit-of p f low is = grind arith

-- the verdict that the findings tell is that on the prices
pub told_verdict : (m : Mode) (e : Instance) (w : List Bool) (p : Prices) → 1 ≤ p.denominator
    → verdict_of (first_told m (findings e w p)) ≡ verdict_of (First m e w p)
told_verdict m e w p low = grind (arith, tell-first)

-- the figures of all projects can be told
pub figures_told : (m : Measure) (e : Instance) (w : List Bool) (xs : List GroupFigures) → AreAllFigures m e w xs
    → All AreSmall xs → All (CanBeTold e) xs
figures_told m e w xs figures small =
    All-from_recursion (CanBeTold e) xs
    (go xs (wanted e w) (all-projects e w) figures.projects (recursion_from_All AreSmall xs small))
  where
    go : (ys : List GroupFigures) (cs : List ℕ) → AllByRecursion (IsProject e) cs → map (λ (x : GroupFigures). x.project) ys ≡ cs
        → AllByRecursion AreSmall ys → AllByRecursion (CanBeTold e) ys
    go [] cs each are s = tt
    go (y ∷ ys) [] each are s = cc
    go (y ∷ ys) (c ∷ cs) each are s =
        let first : y.project ≡ c = cc in
        let rest : map (λ (x : GroupFigures). x.project) ys ≡ cs = cc in
        ((subst (IsProject e) (sym first) each.0, s.0), go ys cs each.1 rest s.1)

-- the verdict by them names a project of the election, if any
names : (e : Instance) (o : Option GroupFigures) → IfSome o (CanBeTold e) → GroupsNameProject e (verdict_by o)
names e None h = tt
names e (Some x) h = h.0

pub verdict_names : (e : Instance) (xs : List GroupFigures) (v : GroupsVerdict) → v ≡ verdict_by (first_short xs)
    → All (CanBeTold e) xs → GroupsNameProject e v
verdict_names e xs v is told =
    subst (GroupsNameProject e) (sym is) (names e (first_short xs) (first_of (CanBeTold e) xs told))

-- the group that is shown can be told
pub shown_can_be_told : (e : Instance) (xs : List GroupFigures) (o : Option GroupFigures) → o ≡ shown xs
    → All (CanBeTold e) xs → IfSome o (CanBeTold e)
shown_can_be_told e xs o is told =
    subst (λ (o : Option GroupFigures). IfSome o (CanBeTold e)) (sym is) (shown_told (CanBeTold e) xs told)
