-- The report on a folder of elections.
use Rattle.std.specs.Prelude.{◌≡◌, ◌+◌, ◌&&◌, not, nat_lt, if◌then◌else◌, Bool, true, false, List, [], ◌∷◌, ◌++◌, count_by, flat_map, map, take, Option, Some, None, codes, decimal}
use Rattle.serde_json.specs.Data.{string}
use Rattle.serde_json.specs.Written.{compact_text}
use Rattle.pb_records.specs.Loading.{Delivery}
use Rattle.pb_cohesion.specs.declared.Mode.{Mode}
use Rattle.pb_records.specs.Records.{Text}
use Rattle.pb_json.specs.Folders.{total_json}
use Rattle.pb_json.specs.Members.{count}
use Rattle.pb_json.specs.Texts.{IsJson}
use Rattle.pb_reply.specs.Replies.{Answer, Reply, text_of}
use Rattle.pb_audit.specs.Answers.{AnswersElection, AnswersPrices, AnswersViolation}
use Rattle.pb_audit.specs.declared.parts.ToldEntry.{ToldEntry}
use Rattle.pb_audit.specs.declared.total.Ending.{Ending}
use Rattle.pb_audit.specs.declared.total.FolderStatus.{FolderStatus}
use Rattle.pb_audit.specs.declared.total.FolderStatus.TheVariants.{AllYes, SomeNo, SomeRefused}
use Rattle.pb_audit.specs.declared.total.Total.{Total}
use Rattle.pb_reply.specs.declared.status.Status.{Status}
use Rattle.pb_reply.specs.declared.status.Status.TheVariants.{Yes, No, Refused}

-- the files of one name, as they are delivered: an election, and its certificates where they are there
pub record EntryFiles : Type 0 where
  pub name : Text
  pub election : Delivery
  pub prices : Option Delivery
  pub violation : Option Delivery

-- what is found of them: the reply on the election, and on each certificate that is audited
pub record Found : Type 0 where
  pub name : Text
  pub read : Reply
  pub prices : Option Reply
  pub violation : Option Reply

-- the certificates that are audited: those of an election that is accepted
abbrev pub where_accepted : Status → Option Delivery → Option Delivery
where_accepted (Refused r) certificate = None
where_accepted Yes certificate = certificate
where_accepted (No u) certificate = certificate

-- what is found of a certificate, where one is audited: a reply that answers it
abbrev pub FindsCertificate : (Delivery → Reply → Type 0) → Option Delivery → Option Reply → Type 0
FindsCertificate answers None None = Unit {0}
FindsCertificate answers (Some certificate) (Some r) = answers certificate r
FindsCertificate answers _ _ = ⊥

-- The outcome of a folder's election is its own: no outcome file is given.
pub record Finds (m : Mode) (files : EntryFiles) (found : Found) : Type 0 where
  pub name : found.name ≡ files.name
  pub read : AnswersElection files.election found.read
  pub prices : FindsCertificate (AnswersPrices m files.election None) (where_accepted found.read.status files.prices)
      found.prices
  pub violation : FindsCertificate (AnswersViolation files.election None)
      (where_accepted found.read.status files.violation) found.violation

-- the same of each entry of a folder
abbrev pub FindsEach : Mode → List EntryFiles → List Found → Type 0
FindsEach m [] [] = Unit {0}
FindsEach m (files ∷ rest) (found ∷ more) = Finds m files found × FindsEach m rest more
FindsEach m _ _ = ⊥

-- the first line of the reply on a file, behind the file's name
abbrev pub file_lines : Text → Reply → List Text
file_lines file r = map (λ l. file ++ codes ": " ++ l) (take 1 r.lines)

abbrev pub certificate_lines : Text → Option Reply → List Text
certificate_lines file None = []
certificate_lines file (Some r) = file_lines file r

-- the objects of an entry's replies in one object, null where a certificate isn't audited
abbrev pub object_of : Option Reply → Text
object_of None = codes "null"
object_of (Some r) = r.json

-- the text of an object by its members, each a key and the text of a value
abbrev pub members_told : Bool → List (Text × Text) → Text
members_told later [] = codes "}"
members_told later (m ∷ ms) =
    (if later then codes "," else []) ++ (compact_text (string m.0) ++ (codes ":" ++ (m.1 ++ members_told true ms)))

abbrev pub object_told : List (Text × Text) → Text
object_told ms = codes "{" ++ members_told false ms

abbrev pub entry_told : Text → Text → Text → Text → Text
entry_told name election prices violation = object_told (
    (codes "election", election)
    ∷ (codes "kind", compact_text (string (codes "entry")))
    ∷ (codes "name", compact_text (string name))
    ∷ (codes "prices", prices)
    ∷ (codes "version", compact_text (count 1))
    ∷ (codes "violation", violation)
    ∷ [])

abbrev pub entry_object : Found → Text
entry_object found =
    entry_told found.name found.read.json (object_of found.prices) (object_of found.violation)

-- the lines on an entry, or its object
abbrev pub lines_of : Bool → Found → List Text
lines_of true found = entry_object found ∷ []
lines_of false found =
    file_lines (found.name ++ codes ".pb") found.read
    ++ certificate_lines (found.name ++ codes ".prices.csv") found.prices
    ++ certificate_lines (found.name ++ codes ".violation.csv") found.violation

-- how each line ends, and whether it is on a certificate
abbrev pub certificate_endings : Option Reply → List Ending
certificate_endings None = []
certificate_endings (Some r) = record { of_certificate = true; status = r.status } ∷ []

abbrev pub endings_on : Reply → Option Reply → Option Reply → List Ending
endings_on read prices violation =
    (record { of_certificate = false; status = read.status } ∷ [])
    ++ certificate_endings prices
    ++ certificate_endings violation

abbrev pub endings_of : Found → List Ending
endings_of found = endings_on found.read found.prices found.violation

-- which status it is
abbrev pub says_yes : Status → Bool
says_yes Yes = true
says_yes _ = false

abbrev pub says_no : Status → Bool
says_no (No u) = true
says_no _ = false

abbrev pub says_refused : Status → Bool
says_refused (Refused r) = true
says_refused _ = false

-- a line on an election; on a certificate that is answered yes, or no; on a file that is refused
abbrev pub is_election : Ending → Bool
is_election line = not line.of_certificate

abbrev pub is_yes : Ending → Bool
is_yes line = line.of_certificate && says_yes line.status

abbrev pub is_no : Ending → Bool
is_no line = line.of_certificate && says_no line.status

abbrev pub is_refused : Ending → Bool
is_refused line = says_refused line.status

-- how many elections there are, how many certificates are answered yes and no, and how many files are refused
abbrev pub total_of : List Ending → Total
total_of lines = record {
  elections = count_by is_election lines;
  yes = count_by is_yes lines;
  no = count_by is_no lines;
  refused = count_by is_refused lines;
}

abbrev pub total_line : Bool → Total → Text
total_line true t = compact_text (total_json t.elections t.yes t.no t.refused)
total_line false t =
    codes "total " ++ decimal t.elections ++ codes " elections "
    ++ decimal t.yes ++ codes " yes "
    ++ decimal t.no ++ codes " no "
    ++ decimal t.refused ++ codes " refused"

abbrev pub status_of : Total → FolderStatus
status_of t = if nat_lt 0 t.refused then SomeRefused else (if nat_lt 0 t.no then SomeNo else AllYes)

-- The report on what is found of each entry: the lines of each, and the line of the total; or, as JSON, an object for
-- each and one for the total, in a line each.
abbrev pub report_on : Bool → List Found → Answer FolderStatus
report_on as_json found = record {
  text = text_of (flat_map (lines_of as_json) found ++ (total_line as_json (total_of (flat_map endings_of found)) ∷ []));
  status = status_of (total_of (flat_map endings_of found));
}

-- the report on the entries of a folder
pub record ReportOf (as_json : Bool) (m : Mode) (entries : List EntryFiles) (report : Answer FolderStatus) : Type 0 where
  pub found : List Found
  pub each : FindsEach m entries found
  pub out : report ≡ report_on as_json found

-- What is told of one entry by itself, its object and its lines, and how many of its files are answered how.
pub record TellsEntry (m : Mode) (files : EntryFiles) (told : ToldEntry) : Type 0 where
  pub found : Found
  pub finds : Finds m files found
  pub text : told.text.items ≡ text_of (lines_of true found ++ lines_of false found)
  pub total : told.total ≡ total_of (endings_of found)

-- what is told of a total, its object and its line
abbrev pub total_told : Total → Answer FolderStatus
total_told t = record {
  text = text_of (total_line true t ∷ total_line false t ∷ []);
  status = status_of t;
}

-- the first line of a text is one value in JSON
pub record BeginsWithJson (text : Text) : Type 0 where
  pub line : Text
  pub json : IsJson line
  pub rest : Text
  pub begins : text ≡ text_of (line ∷ []) ++ rest

-- the sum of two totals, and of a list of them
abbrev pub added : Total → Total → Total
added a b = record {
  elections = a.elections + b.elections;
  yes = a.yes + b.yes;
  no = a.no + b.no;
  refused = a.refused + b.refused;
}

abbrev pub together : List Total → Total
together [] = record { elections = 0; yes = 0; no = 0; refused = 0 }
together (t ∷ ts) = added t (together ts)

-- A report that is not finished: how it is written, its mode, its text so far but for what is written out, and how the
-- files of that text end.
pub record Progress : Type 0 where
  pub as_json : Bool
  pub mode : Mode
  pub text : Text
  pub endings : List Ending

-- a line more, which is one value in JSON
pub record AddsJsonLine (old new : Text) : Type 0 where
  pub line : Text
  pub json : IsJson line
  pub added : new ≡ old ++ text_of (line ∷ [])

-- what is written out of its text, and the rest of it, are the text of these entries
pub record HasTaken (p : Progress) (entries : List EntryFiles) (written : Text) : Type 0 where
  pub found : List Found
  pub each : FindsEach p.mode entries found
  pub text : written ++ p.text ≡ text_of (flat_map (lines_of p.as_json) found)
  pub endings : p.endings ≡ flat_map endings_of found

-- with the rest of the text, and what was written out before, this is the report on the entries
abbrev pub IsRestOf : Progress → List EntryFiles → Text → Answer FolderStatus → Type 0
IsRestOf p entries written rest =
    ReportOf p.as_json p.mode entries (record { text = written ++ rest.text; status = rest.status })
