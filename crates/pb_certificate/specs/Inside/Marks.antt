-- The readers' own marks: which of the numbers from 1 on have been named. No claim on a file rests on this.
use Rattle.std.specs.Prelude.{◌-◌, if◌then◌else◌, Bool, true, ℕ, List, filter, length, map, is_some, Option, Some, None, Result, Ok, Err, slice_index_or, slice_set}
use Rattle.std.specs.List.{range_with_len}
use Rattle.pb_election.specs.Instance.{Instance, projects, voters}
use Rattle.pb_records.specs.Records.{Field}
use Rattle.pb_certificate.specs.Fields.{project_in, voter_in, whole_in}
use Rattle.pb_certificate.specs.NamedRows.{Named, was_named}
use Rattle.pb_certificate.specs.NamedRows.Named.{Voter, Project}
use Rattle.pb_certificate.specs.declared.refusal.CertFault.{CertFault}
use Rattle.pb_certificate.specs.declared.refusal.CertFault.TheVariants as fault

-- whether a number, from 1, is marked; one behind the last counts as marked
abbrev pub is_marked : List Bool → ℕ → Bool
is_marked marks number = slice_index_or marks (number - 1) true

-- the marks with one more
abbrev pub with_mark : List Bool → ℕ → List Bool
with_mark marks number = slice_set marks (number - 1) true

-- the numbers that are marked, rising
abbrev pub marked : List Bool → List ℕ
marked marks = filter (is_marked marks) (range_with_len 1 (length marks))

-- the marks of the numbers, up to a greatest one, that pass a test
abbrev pub marks_of : (ℕ → Bool) → ℕ → List Bool
marks_of test greatest = map test (range_with_len 1 greatest)

-- the marks of the voters and of the projects that some names are
abbrev pub voter_marks : Instance → List Named → List Bool
voter_marks e names = marks_of (λ i. was_named names (Voter i)) (voters e)

abbrev pub project_marks : Instance → List Named → List Bool
project_marks e names = marks_of (λ j. was_named names (Project j)) (projects e)

-- the marks after something was named that has a number, or has none, which is the fault here
abbrev pub marks_after : CertFault → Option ℕ → List Bool → Result (List Bool) CertFault
marks_after unknown None marks = Err unknown
marks_after unknown (Some number) marks = if is_marked marks number then Err fault.Repeated
    else Ok (with_mark marks number)

-- the marks after a field named a project, and after one named a voter
abbrev pub project_after : Instance → Field → List Bool → Result (List Bool) CertFault
project_after e id marks = marks_after fault.UnknownProject (project_in e id) marks

abbrev pub voter_after : Instance → Field → List Bool → Result (List Bool) CertFault
voter_after e f marks = if is_some (whole_in f) then marks_after fault.UnknownVoter (voter_in e f) marks
    else Err fault.BadNumber
