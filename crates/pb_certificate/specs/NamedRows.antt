-- The rows of violation certificates and outcome files: each names a voter or a project.
use Rattle.std.specs.Prelude.{◌≡◌, ◌==◌, if◌then◌else◌, Bool, true, false, ℕ, List, [], ◌∷◌, map, Option, Some, None, Result, Err, is_some, option_map, codes}
use Rattle.std.specs.Option.{ok_or}
use Rattle.std.specs.List.{IsDistinct, list_any}
use Rattle.std.specs.Str.{bytes_eq}
use Rattle.pb_election.specs.Instance.{Instance}
use Rattle.pb_records.specs.Records.{Field, Rec}
use Rattle.pb_records.specs.Cells.{cell}
use Rattle.pb_certificate.specs.Fields.{fields, project_in, voter_in, whole_in}
use Rattle.pb_certificate.specs.declared.refusal.CertFault.{CertFault}
use Rattle.pb_certificate.specs.declared.refusal.CertFault.TheVariants as fault

-- what a row names
pub data Named : Type 0 where
  Voter : ℕ → Named
  Project : ℕ → Named

abbrev pub is_project : Named → Bool
is_project (Voter i) = false
is_project (Project j) = true

-- whether both are the same voter or the same project
abbrev pub same_named : Named → Named → Bool
same_named (Voter i) (Voter k) = i == k
same_named (Voter i) (Project k) = false
same_named (Project j) (Voter k) = false
same_named (Project j) (Project k) = j == k

-- what two fields name: the word `voter` and a voter's number, or the word `project` and an id. Other fields name
-- nothing
abbrev pub named_by : Instance → List Field → Option Named
named_by e [] = None
named_by e (kind ∷ []) = None
named_by e (kind ∷ f ∷ []) =
    if bytes_eq kind (codes "voter") then option_map Voter (voter_in e f)
    else if bytes_eq kind (codes "project") then option_map Project (project_in e f)
    else None
named_by e (kind ∷ f ∷ g ∷ gs) = None

-- what a row names
abbrev pub named_of : Instance → Rec → Option Named
named_of e r = named_by e (fields r)

-- whether this voter or this project was named
abbrev pub was_named : List Named → Named → Bool
was_named names x = list_any (same_named x) names

-- the rows name these, in their order, and none of them twice
pub record RowsName (e : Instance) (rows : List Rec) (names : List Named) : Type 0 where
  pub each_row : map (named_of e) rows ≡ map Some names
  pub once : IsDistinct same_named names

-- the word that a row begins with
abbrev pub is_kind : Field → Rec → Bool
is_kind kind r = bytes_eq (cell 0 r) kind

-- what a field names, or its fault
abbrev pub voter_named : Instance → Field → Result Named CertFault
voter_named e f = if is_some (whole_in f) then ok_or (option_map Voter (voter_in e f)) fault.UnknownVoter
    else Err fault.BadNumber

abbrev pub project_named : Instance → Field → Result Named CertFault
project_named e f = ok_or (option_map Project (project_in e f)) fault.UnknownProject
