-- What a file is, by its first record that is not blank.
use Rattle.std.specs.Prelude.{◌||◌, if◌then◌else◌, Bool, false, ℕ, List, [], ◌∷◌, Option, Some, None, option_and_then, codes}
use Rattle.std.specs.Option.{option_map_or}
use Rattle.pb_records.specs.Records.{Field, Rec, election_records}
use Rattle.pb_records.specs.Cells.{is_text, nonblank}
use Rattle.pb_election.specs.Markers.{marks}
use Rattle.pb_election.specs.declared.sections.Section.TheVariants.{Meta}
use Rattle.pb_certificate.specs.Faults.{certificate_records}
use Rattle.pb_certificate.specs.Fields.{fields, same_fields}
use Rattle.pb_certificate.specs.Prices.Text.{price_name}
use Rattle.pb_certificate.specs.Violations.Text.{is_version_1, is_version_2}
use Rattle.pb_certificate.specs.Refutations.Text.{refutation_name}
use Rattle.pb_hints.specs.declared.file_kind.FileKind.{FileKind}
use Rattle.pb_hints.specs.declared.file_kind.FileKind.TheVariants as kind

-- the first of some records, where it is UTF-8
abbrev pub first_text : List Rec → Option Rec
first_text [] = None
first_text (first ∷ more) = if is_text first then Some first else None

-- the first record that is not blank, where it is UTF-8
abbrev pub first_record : List Rec → Option Rec
first_record recs = first_text (nonblank recs)

-- an election begins with the marker of META
abbrev pub marks_meta : Rec → Bool
marks_meta r = marks Meta r

abbrev pub begins_election : List Rec → Bool
begins_election recs = option_map_or marks_meta (first_record recs) false

-- an outcome file, and each kind of certificate, begins with a record that names its format
abbrev pub outcome_name : List Field
outcome_name = codes "pb-outcome" ∷ codes "1" ∷ []

abbrev pub kind_named : Rec → Option FileKind
kind_named r =
    if same_fields (fields r) outcome_name then Some kind.Outcome
    else if same_fields (fields r) price_name then Some kind.Prices
    else if is_version_1 r || is_version_2 r then Some kind.Violation
    else if same_fields (fields r) refutation_name then Some kind.Refutation
    else None

abbrev pub kind_by_head : List Rec → Option FileKind
kind_by_head recs = option_and_then kind_named (first_record recs)

-- what a file is, where it begins as one of these does
abbrev pub kind_of : List ℕ → Option FileKind
kind_of bytes =
    if begins_election (election_records bytes) then Some kind.Election else kind_by_head (certificate_records bytes)
