-- The answer on a violation certificate, with what each test comes to. Amounts are in millionths of the currency.
use Rattle.std.specs.Prelude.{◌==◌, ◌*◌, nat_le, nat_lt, Bool, true, false, ℕ, List, [], ◌∷◌, IfSome, codes}
use Rattle.serde_json.specs.Data.{Data, null}
use Rattle.pb_election.specs.Instance.{Instance, IsProject, voters}
use Rattle.pb_certificate.specs.declared.violations.measure.Measure.{Measure}
use Rattle.pb_certificate.specs.declared.violations.measure.Measure.TheVariants.{ByCount, ByCost}
use Rattle.pb_cohesion.specs.Failed.{violation_failed}
use Rattle.pb_cohesion.specs.declared.MissingApprovals.{MissingApprovals}
use Rattle.pb_cohesion.specs.declared.ViolationFindings.{ViolationFindings}
use Rattle.pb_cohesion.specs.declared.ViolationVerdict.{ViolationVerdict}
use Rattle.pb_cohesion.specs.declared.ViolationVerdict.TheVariants as verdict
use Rattle.pb_records.specs.Records.{Text}
use Rattle.pb_json.specs.Elections.{election_json, outcome_json}
use Rattle.pb_json.specs.Members.{amount, answer, count, fields, flag, list, or_null, text}
use Rattle.pb_json.specs.Places.{failed_json, pair_or_null}

-- V1: there are members
abbrev pub v1_json : ViolationFindings → Data
v1_json f = fields (
    (codes "holds", flag (nat_lt 0 f.members))
    ∷ (codes "members", count f.members)
    ∷ (codes "name", text (codes "V1"))
    ∷ [])

-- V2: each member approves each demanded project
abbrev pub v2_json : Instance → MissingApprovals → Data
v2_json e f = fields (
    (codes "culprits", count f.count)
    ∷ (codes "first", pair_or_null e f.first)
    ∷ (codes "holds", flag (f.count == 0))
    ∷ (codes "name", text (codes "V2"))
    ∷ [])

-- V3: the demanded projects cost no more than the group's share, the limit times the members over the voters
abbrev pub share_json : Instance → ViolationFindings → Data
share_json e f = fields (
    (codes "denominator", count (voters e))
    ∷ (codes "numerator", amount (f.members * e.limit))
    ∷ [])

abbrev pub v3_json : Instance → ViolationFindings → Data
v3_json e f = fields (
    (codes "cost", amount f.cost)
    ∷ (codes "holds", flag (nat_le (voters e * f.cost) (f.members * e.limit)))
    ∷ (codes "name", text (codes "V3"))
    ∷ (codes "share", share_json e f)
    ∷ [])

-- V4: each member gets less than what is demanded
abbrev pub member_json : ℕ → Data
member_json i = fields ((codes "voter", count i) ∷ [])

abbrev pub v4_json : ViolationFindings → Data
v4_json f = fields (
    (codes "culprits", count f.satisfied.count)
    ∷ (codes "demanded", amount f.demanded)
    ∷ (codes "first", or_null member_json f.satisfied.first)
    ∷ (codes "gets", amount f.gets)
    ∷ (codes "holds", flag (f.satisfied.count == 0))
    ∷ (codes "name", text (codes "V4"))
    ∷ [])

-- the tests, in their order
abbrev pub tests : Instance → ViolationFindings → List Data
tests e f = v1_json f ∷ v2_json e f.unapproved ∷ v3_json e f ∷ v4_json f ∷ []

abbrev pub tests_json : Instance → ViolationFindings → Data
tests_json e f = list (tests e f)

abbrev pub is_yes : ViolationVerdict → Bool
is_yes verdict.Violation = true
is_yes (verdict.Failed f) = false

-- the first test that fails, and where
abbrev pub first_failed : Instance → ViolationVerdict → Data
first_failed e verdict.Violation = null
first_failed e (verdict.Failed f) = failed_json e (violation_failed f)

abbrev pub measure_word : Measure → Text
measure_word ByCount = codes "count"
measure_word ByCost = codes "cost"

abbrev pub violation_json : Measure → Instance → List Bool → ViolationVerdict → ViolationFindings → Data
violation_json measure e w v f = fields (
    (codes "answer", text (answer (is_yes v)))
    ∷ (codes "election", election_json e)
    ∷ (codes "failed", first_failed e v)
    ∷ (codes "kind", text (codes "violation"))
    ∷ (codes "measure", text (measure_word measure))
    ∷ (codes "outcome", outcome_json e w)
    ∷ (codes "tests", tests_json e f)
    ∷ (codes "version", count 1)
    ∷ [])

-- the project that findings name is one of the election
abbrev pub FindingsNameProject : Instance → ViolationFindings → Type 0
FindingsNameProject e f = IfSome f.unapproved.first (λ q. IsProject e q.1)
