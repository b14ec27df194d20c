-- The answer on prices, with what each condition comes to. The amounts of a certificate are in grains.
use Rattle.std.specs.Prelude.{Bool, true, false, ℕ, List, [], ◌∷◌, IfSome, Option, Some, None, codes, map, option_map}
use Rattle.serde_json.specs.Data.{Data, null}
use Rattle.pb_election.specs.Instance.{Instance}
use Rattle.pb_price.specs.Condition.{all_conditions, culprits, found, holds, is_asked, name}
use Rattle.pb_price.specs.OnGroups.{on_groups}
use Rattle.pb_price.specs.Told.{price_failed}
use Rattle.pb_price.specs.declared.Comparison.{Comparison}
use Rattle.pb_price.specs.declared.Finding.{Finding}
use Rattle.pb_price.specs.declared.Findings.{Findings}
use Rattle.pb_cohesion.specs.declared.Mode.{Mode}
use Rattle.pb_price.specs.declared.OnGroups.{OnGroups}
use Rattle.pb_price.specs.declared.OnGroups.TheVariants.{Strict, Weak, Little}
use Rattle.pb_price.specs.declared.condition.Found.{Found}
use Rattle.pb_price.specs.declared.condition.Found.TheVariants.{Totals, Payments, Voters, Projects}
use Rattle.pb_price.specs.declared.Verdict.{Verdict}
use Rattle.pb_price.specs.declared.Verdict.TheVariants as verdict
use Rattle.pb_records.specs.Records.{Text}
use Rattle.pb_price.specs.declared.nearest.NearestGroup.{NearestGroup}
use Rattle.pb_json.specs.Elections.{election_json, outcome_json}
use Rattle.pb_json.specs.Groups.{nearest_json}
use Rattle.pb_json.specs.Members.{amount, answer, balance, count, fields, flag, list, or_null, text}
use Rattle.pb_json.specs.declared.places.At.{At}
use Rattle.pb_json.specs.declared.places.At.TheVariants.{Voter, Project}
use Rattle.pb_json.specs.declared.places.Place.{Place}
use Rattle.pb_json.specs.Places.{NamesProject, failed_json, nowhere, pair_or_null, place_at, place_or_null, project_json, voter_json}

-- two sums that a condition compares, and where
abbrev pub sums_json : Instance → Data → ℕ → Place → Data
sums_json e sum bound at = fields (
    (codes "amount", sum)
    ∷ (codes "bound", amount bound)
    ∷ (codes "project", project_json e at.project)
    ∷ (codes "voter", voter_json at.voter)
    ∷ [])

abbrev pub comparison_or_null : Instance → At → Option Comparison → Data
comparison_or_null e at shown = or_null (λ m. sums_json e (balance m.amount) m.bound (place_at at m.at)) shown

-- a condition: whether it is asked for and holds, how many culprits it has, the first of them, and the sums shown
abbrev pub condition_json : Text → Bool → Bool → ℕ → Data → Data → Data
condition_json name asked holds culprits first shown = fields (
    (codes "asked", flag asked)
    ∷ (codes "culprits", count culprits)
    ∷ (codes "first", first)
    ∷ (codes "holds", flag holds)
    ∷ (codes "name", text name)
    ∷ (codes "shown", shown)
    ∷ [])

-- the first culprit of a finding on voters or on projects
abbrev pub first_at : Instance → At → Finding → Data
first_at e at f = place_or_null e (option_map (place_at at) f.first)

-- the first culprit of a condition, and the sums that it compares
abbrev pub first_culprit : Instance → Found → Data
first_culprit e (Totals it_holds total limit) = null
first_culprit e (Payments f) = pair_or_null e f.first
first_culprit e (Voters f) = first_at e Voter f
first_culprit e (Projects f) = first_at e Project f

abbrev pub shown_json : Instance → Found → Data
shown_json e (Totals it_holds total limit) = sums_json e (amount total) limit nowhere
shown_json e (Payments f) = null
shown_json e (Voters f) = comparison_or_null e Voter f.shown
shown_json e (Projects f) = comparison_or_null e Project f.shown

abbrev pub found_json : Instance → Text → Bool → Found → Data
found_json e name asked f = condition_json name asked (holds f) (culprits f) (first_culprit e f) (shown_json e f)

-- the conditions, in their order
abbrev pub conditions_json : Mode → Instance → Findings → Data
conditions_json m e f = list (map (λ c. found_json e (name c) (is_asked m c) (found f c)) all_conditions)

abbrev pub is_yes : Verdict → Bool
is_yes verdict.Supported = true
is_yes (verdict.Failed f) = false

-- the first condition that is false, and where
abbrev pub first_failed : Instance → Verdict → Data
first_failed e verdict.Supported = null
first_failed e (verdict.Failed f) = failed_json e (price_failed f)

-- what a yes says of groups
abbrev pub groups_word : OnGroups → Text
groups_word Strict = codes "strict"
groups_word Weak = codes "weak"
groups_word Little = codes "little"

abbrev pub groups_said : Mode → Verdict → Findings → Option Text
groups_said m verdict.Supported f = Some (groups_word (on_groups m.exhaustive f.budgets f.limit))
groups_said m (verdict.Failed _) f = None

abbrev pub mode_json : Mode → Data
mode_json m = fields (
    (codes "cover", flag m.cover)
    ∷ (codes "exhaustive", flag m.exhaustive)
    ∷ (codes "stable", flag m.stable)
    ∷ [])

abbrev pub prices_json : Mode → Instance → List Bool → Verdict → Findings → Option NearestGroup → Data
prices_json m e w v f nearest = fields (
    (codes "answer", text (answer (is_yes v)))
    ∷ (codes "budgets", amount f.budgets)
    ∷ (codes "conditions", conditions_json m e f)
    ∷ (codes "election", election_json e)
    ∷ (codes "failed", first_failed e v)
    ∷ (codes "grains_per_unit", count f.grains_per_unit)
    ∷ (codes "groups", or_null text (groups_said m v f))
    ∷ (codes "kind", text (codes "prices"))
    ∷ (codes "limit", amount f.limit)
    ∷ (codes "mode", mode_json m)
    ∷ (codes "nearest", or_null (nearest_json e) nearest)
    ∷ (codes "outcome", outcome_json e w)
    ∷ (codes "total", amount f.total)
    ∷ (codes "version", count 1)
    ∷ (codes "voter_budget", amount f.voter_budget)
    ∷ [])

-- The members by where they are put in: on the verdict, on what was audited, and the amounts.

abbrev pub verdict_members : Instance → Mode → Verdict → Findings → List (Text × Data)
verdict_members e m v f =
    (codes "answer", text (answer (is_yes v)))
    ∷ (codes "failed", first_failed e v)
    ∷ (codes "groups", or_null text (groups_said m v f))
    ∷ []

abbrev pub audited_members : Instance → List Bool → Mode → List (Text × Data)
audited_members e w m =
    (codes "election", election_json e)
    ∷ (codes "kind", text (codes "prices"))
    ∷ (codes "mode", mode_json m)
    ∷ (codes "outcome", outcome_json e w)
    ∷ (codes "version", count 1)
    ∷ []

abbrev pub amount_members : Findings → List (Text × Data)
amount_members f =
    (codes "budgets", amount f.budgets)
    ∷ (codes "grains_per_unit", count f.grains_per_unit)
    ∷ (codes "limit", amount f.limit)
    ∷ (codes "total", amount f.total)
    ∷ (codes "voter_budget", amount f.voter_budget)
    ∷ []

-- the projects that a finding names are those of the election
pub record FindingCanBeTold (e : Instance) (at : At) (f : Finding) : Type 0 where
  pub first : IfSome f.first (λ x. NamesProject e (place_at at x))
  pub shown : IfSome f.shown (λ m. NamesProject e (place_at at m.at))
