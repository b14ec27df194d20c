-- The answer on a refutation, with what each test comes to. Costs are in millionths of the currency.
use Rattle.std.specs.Prelude.{◌==◌, ◌||◌, ◌&&◌, nat_le, nat_lt, Bool, true, false, ℕ, List, [], ◌∷◌, IfSome, Option, Some, None, codes, is_some, unwrap_or}
use Rattle.serde_json.specs.Data.{Data, null}
use Rattle.pb_election.specs.Instance.{Instance, IsProject}
use Rattle.pb_cohesion.specs.Failed.{refutation_failed}
use Rattle.pb_cohesion.specs.declared.MisplacedRows.{MisplacedRows}
use Rattle.pb_cohesion.specs.declared.RefutationFindings.{RefutationFindings}
use Rattle.pb_cohesion.specs.declared.RefutationVerdict.{RefutationVerdict}
use Rattle.pb_cohesion.specs.declared.RefutationVerdict.TheVariants as verdict
use Rattle.pb_records.specs.Records.{Text}
use Rattle.pb_json.specs.Elections.{election_json, outcome_json}
use Rattle.pb_json.specs.Members.{amount, answer, count, fields, flag, list, or_null, text}
use Rattle.pb_json.specs.Places.{failed_json, project_json}

-- U1: each row fits whether its project is funded
abbrev pub row_json : Instance → ℕ → Data
row_json e j = fields ((codes "project", project_json e (Some j)) ∷ [])

abbrev pub u1_json : Instance → MisplacedRows → Data
u1_json e f = fields (
    (codes "culprits", count f.count)
    ∷ (codes "first", or_null (row_json e) f.first)
    ∷ (codes "holds", flag (f.count == 0))
    ∷ (codes "name", text (codes "U1"))
    ∷ [])

-- U2: the weights count the budgets no more often than they take them, where stable prices are asked about for those
abbrev pub u2_json : RefutationFindings → Data
u2_json f = fields (
    (codes "counted", amount f.counted)
    ∷ (codes "counted_stable", or_null amount f.counted_stable)
    ∷ (codes "holds", flag (nat_le (unwrap_or f.counted_stable f.counted) f.taken))
    ∷ (codes "name", text (codes "U2"))
    ∷ (codes "taken", amount f.taken)
    ∷ [])

-- U3: what is paid at least is more than what is paid at most, or as much and Cover has a weight
abbrev pub costs_differ : ℕ → ℕ → ℕ → Bool
costs_differ least most cover = nat_lt most least || ((most == least) && nat_lt 0 cover)

abbrev pub u3_json : RefutationFindings → Data
u3_json f = fields (
    (codes "at_least", amount f.at_least)
    ∷ (codes "at_most", amount f.at_most)
    ∷ (codes "cover", count f.cover)
    ∷ (codes "holds", flag (costs_differ f.at_least f.at_most f.cover))
    ∷ (codes "name", text (codes "U3"))
    ∷ [])

-- the tests, in their order
abbrev pub tests : Instance → RefutationFindings → List Data
tests e f = u1_json e f.misplaced ∷ u2_json f ∷ u3_json f ∷ []

abbrev pub tests_json : Instance → RefutationFindings → Data
tests_json e f = list (tests e f)

-- what a refutation proves
abbrev pub proved : RefutationVerdict → Option Text
proved verdict.Unpriceable = Some (codes "unpriceable")
proved verdict.UnpriceableUnderCover = Some (codes "unpriceable cover")
proved verdict.UnpriceableStable = Some (codes "unpriceable stable")
proved verdict.UnpriceableStableUnderCover = Some (codes "unpriceable stable cover")
proved (verdict.Failed f) = None

abbrev pub is_yes : RefutationVerdict → Bool
is_yes verdict.Unpriceable = true
is_yes verdict.UnpriceableUnderCover = true
is_yes verdict.UnpriceableStable = true
is_yes verdict.UnpriceableStableUnderCover = true
is_yes (verdict.Failed f) = false

-- the first test that fails, and where
abbrev pub first_failed : Instance → RefutationVerdict → Data
first_failed e verdict.Unpriceable = null
first_failed e verdict.UnpriceableUnderCover = null
first_failed e verdict.UnpriceableStable = null
first_failed e verdict.UnpriceableStableUnderCover = null
first_failed e (verdict.Failed f) = failed_json e (refutation_failed f)

-- with whether stable prices are asked about
abbrev pub refutation_json : Instance → List Bool → RefutationVerdict → RefutationFindings → Data
refutation_json e w v f = fields (
    (codes "answer", text (answer (is_yes v)))
    ∷ (codes "election", election_json e)
    ∷ (codes "failed", first_failed e v)
    ∷ (codes "kind", text (codes "refutation"))
    ∷ (codes "outcome", outcome_json e w)
    ∷ (codes "proves", or_null text (proved v))
    ∷ (codes "stable", flag (is_some f.counted_stable))
    ∷ (codes "tests", tests_json e f)
    ∷ (codes "version", count 1)
    ∷ [])

-- the project that findings name is one of the election
abbrev pub FindingsNameProject : Instance → RefutationFindings → Type 0
FindingsNameProject e f = IfSome f.misplaced.first (IsProject e)
