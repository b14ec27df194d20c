-- The printed lines, without their ends.
use Rattle.std.specs.Prelude.{◌==◌, nat_lt, if◌then◌else◌, Bool, ℕ, List, [], ◌∷◌, ◌++◌, count_by, Option, Some, None, codes, decimal}
use Rattle.std.specs.Option.{option_map}
use Rattle.pb_election.specs.Instance.{Instance, id_of, projects, voters}
use Rattle.pb_cohesion.specs.Failed.{Failed, refutation_failed, violation_failed}
use Rattle.pb_cohesion.specs.Outcome.{total}
use Rattle.pb_election.specs.declared.columns.UnusedColumns.{UnusedColumns}
use Rattle.pb_certificate.specs.declared.violations.measure.Measure.{Measure}
use Rattle.pb_certificate.specs.declared.violations.measure.Measure.TheVariants.{ByCount, ByCost}
use Rattle.pb_cohesion.specs.declared.GroupsVerdict.{GroupsVerdict}
use Rattle.pb_cohesion.specs.declared.GroupsVerdict.TheVariants as groups_verdict
use Rattle.pb_cohesion.specs.declared.RefutationVerdict.{RefutationVerdict}
use Rattle.pb_cohesion.specs.declared.RefutationVerdict.TheVariants as refutation_verdict
use Rattle.pb_cohesion.specs.declared.ViolationVerdict.{ViolationVerdict}
use Rattle.pb_cohesion.specs.declared.ViolationVerdict.TheVariants as violation_verdict
use Rattle.pb_price.specs.Told.{price_failed}
use Rattle.pb_price.specs.declared.Verdict.{Verdict}
use Rattle.pb_price.specs.declared.Verdict.TheVariants as verdict
use Rattle.pb_records.specs.Records.{Text}
use Rattle.pb_input.specs.Faults.{fault_name, fault_number, fault_record, name_of}
use Rattle.pb_input.specs.declared.InputRefusal.{InputRefusal}

-- how many projects are funded, where the election says which
abbrev pub number_of_funded : Instance → Option ℕ
number_of_funded e = option_map (count_by (λ mark. mark)) e.selected

abbrev pub outcome_words : Option ℕ → Text
outcome_words None = codes "no outcome"
outcome_words (Some count) = decimal count ++ codes " funded"

-- the line on an election that was read
abbrev pub read_line : Instance → Text
read_line e = codes "read " ++ decimal (voters e) ++ codes " voters " ++ decimal (projects e) ++ codes " projects "
    ++ outcome_words (number_of_funded e)

-- the notes on an election, in their order: a declared count is not the counted one, some fields of the column
-- `selected` are neither 0 nor 1, and VOTES has a column that would weigh votes and is not used
abbrev pub count_words : Text → ℕ → ℕ → Text
count_words key said counted = codes "note: " ++ key ++ codes " says " ++ decimal said ++ codes ", counted "
    ++ decimal counted

abbrev pub count_note : Text → Option ℕ → ℕ → List Text
count_note key None counted = []
count_note key (Some said) counted = if said == counted then [] else count_words key said counted ∷ []

abbrev pub count_notes : Instance → List Text
count_notes e =
    count_note (codes "num_projects") e.declared_projects (projects e)
    ++ count_note (codes "num_votes") e.declared_votes (voters e)

abbrev pub selected_words : ℕ → Text
selected_words k = codes "note: selected is neither 0 nor 1 in " ++ decimal k ++ codes " projects"

abbrev pub selected_note : ℕ → List Text
selected_note k = if k == 0 then [] else selected_words k ∷ []

abbrev pub column_words : Text → Text
column_words name = codes "note: column " ++ name ++ codes " of VOTES is not used"

abbrev pub column_note : Text → Bool → List Text
column_note name has = if has then column_words name ∷ [] else []

abbrev pub column_notes : UnusedColumns → List Text
column_notes unused =
    column_note (codes "weight") unused.weight
    ++ column_note (codes "points") unused.points
    ++ column_note (codes "sign") unused.sign

abbrev pub notes : Instance → List Text
notes e =
    count_notes e
    ++ selected_note e.other_selected
    ++ column_notes e.unused

-- the note on an outcome that costs more than the limit
abbrev pub limit_words : Text
limit_words = codes "note: the funded projects cost more than the limit"

abbrev pub limit_note : Instance → List Bool → List Text
limit_note e w = if nat_lt e.limit (total e w) then limit_words ∷ [] else []

-- a condition or a test that fails: its name, and the voter and the project at which it does
abbrev pub voter_words : Option ℕ → Text
voter_words None = []
voter_words (Some i) = codes " voter " ++ decimal i

abbrev pub project_words : Instance → Option ℕ → Text
project_words e None = []
project_words e (Some j) = codes " project " ++ id_of e j

abbrev pub failed_line : Instance → Failed → Text
failed_line e f = codes "failed " ++ f.name ++ voter_words f.voter ++ project_words e f.project

-- the line of a verdict on prices, in the stable form or the plain one
abbrev pub price_line : Bool → Instance → Verdict → Text
price_line stable e verdict.Supported = if stable then codes "supported stable" else codes "supported priceable"
price_line stable e (verdict.Failed f) = failed_line e (price_failed f)

-- the line of a verdict on a violation
abbrev pub violation_line : Instance → ViolationVerdict → Text
violation_line e violation_verdict.Violation = codes "violation"
violation_line e (violation_verdict.Failed f) = failed_line e (violation_failed f)

-- the line of a verdict on a refutation
abbrev pub refutation_line : Instance → RefutationVerdict → Text
refutation_line e refutation_verdict.Unpriceable = codes "unpriceable"
refutation_line e refutation_verdict.UnpriceableUnderCover = codes "unpriceable cover"
refutation_line e refutation_verdict.UnpriceableStable = codes "unpriceable stable"
refutation_line e refutation_verdict.UnpriceableStableUnderCover = codes "unpriceable stable cover"
refutation_line e (refutation_verdict.Failed f) = failed_line e (refutation_failed f)

-- the line of a verdict on groups that fall short, by a measure
abbrev pub measure_words : Measure → Text
measure_words ByCount = codes "by count"
measure_words ByCost = codes "by cost"

abbrev pub groups_failed_line : Text → ℕ → Text → Text
groups_failed_line words k id = codes "failed EJR+ " ++ words ++ codes " voters " ++ decimal k ++ codes " project " ++ id

abbrev pub groups_line : Measure → Instance → GroupsVerdict → Text
groups_line m e groups_verdict.Satisfied = codes "satisfied ejr+ " ++ measure_words m
groups_line m e (groups_verdict.Failed c k) = groups_failed_line (measure_words m) k (id_of e c)

-- the line of a refusal
abbrev pub refusal_line : InputRefusal → Text
refusal_line r = codes "refused " ++ name_of r.input ++ codes " " ++ decimal (fault_number r.fault) ++ codes " "
    ++ fault_name r.fault ++ codes " record " ++ decimal (fault_record r.fault)
