-- Why records are not the text of an election: the faults, and the record at which each stands. They are the faults of
-- Pabulib's .pb files, in the profile that docs/FORMATS.md describes, with its numbers and names.
use Rattle.std.specs.Prelude.{◌+◌, ◌==◌, ◌&&◌, ◌||◌, not, nat_lt, if◌then◌else◌, Bool, true, false, ℕ, List, [], ◌∷◌, length, find, count_by, Option, Some, None, is_ok, codes}
use Rattle.std.specs.List.{last_or, list_any}
use Rattle.std.specs.Option.{option_map_or}
use Rattle.pb_money.specs.Money.{money_of}
use Rattle.pb_records.specs.Records.{Field, Rec, election_records}
use Rattle.pb_election.specs.Instance.{approvals, most_approvals, most_projects, most_voters}
use Rattle.pb_election.specs.Names.{is_among}
use Rattle.pb_election.specs.Markers.{is_marker, marks, same_section}
use Rattle.pb_records.specs.Cells.{is_text}
use Rattle.pb_records.specs.FirstFault.{Form, IsFirstFault}
use Rattle.pb_election.specs.Rows.{ballot_in, ballots_in, columns_of, cost_in, has_key, id_in, ids_in, is_approval, is_id, is_known, key_in, needed_columns, read_columns, occurrences, value_in, vote_column}
use Rattle.pb_election.specs.declared.refusal.ElectionFault.{ElectionFault}
use Rattle.pb_election.specs.declared.refusal.ElectionFault.TheVariants as fault
use Rattle.pb_election.specs.declared.refusal.Refusal.{Refusal}
use Rattle.pb_election.specs.declared.columns.Columns.{Columns}
use Rattle.pb_election.specs.declared.keys.Key.{Key}
use Rattle.pb_election.specs.declared.keys.Key.TheVariants.{Budget, VoteType}
use Rattle.pb_election.specs.declared.sections.RecordRole.{RecordRole}
use Rattle.pb_election.specs.declared.sections.RecordRole.TheVariants.{First, Header, Inside}
use Rattle.pb_election.specs.declared.sections.Section.{Section}
use Rattle.pb_election.specs.declared.sections.Section.TheVariants.{Meta, Projects, Votes}

-- The role of a record depends only on the records before it that are not blank.

-- the section to which so many markers lead; none, or more than three, come only behind a fault
abbrev pub section_of : ℕ → Section
section_of markers = if markers == 1 then Meta else if markers == 2 then Projects else Votes

-- with no record before it a record is the first; after a marker it is the header's; else it is inside a section
abbrev pub role_after : Option Rec → ℕ → RecordRole
role_after None markers = First
role_after (Some last) markers = if is_marker last then Header (section_of markers) else Inside (section_of markers)

unfoldable pub role_of : List Rec → RecordRole
role_of before = role_after (last_or None before) (count_by is_marker before)

abbrev pub is_first : RecordRole → Bool
is_first First = true
is_first (Header s) = false
is_first (Inside s) = false

abbrev pub is_header : RecordRole → Bool
is_header First = false
is_header (Header s) = true
is_header (Inside s) = false

abbrev pub is_inside : Section → RecordRole → Bool
is_inside s First = false
is_inside s (Header t) = false
is_inside s (Inside t) = same_section s t

-- What stands before a record in each section.

-- the records behind the marker of a section
unfoldable pub behind_marker : Section → List Rec → List Rec
behind_marker s [] = []
behind_marker s (r ∷ rs) = if marks s r then rs else behind_marker s rs

-- the records up to the next marker
unfoldable pub up_to_marker : List Rec → List Rec
up_to_marker [] = []
up_to_marker (r ∷ rs) = if is_marker r then [] else r ∷ up_to_marker rs

abbrev pub first_of : List Rec → Rec
first_of [] = []
first_of (r ∷ rs) = r

abbrev pub rest_of : List Rec → List Rec
rest_of [] = []
rest_of (r ∷ rs) = rs

-- the header of a section, and its rows
abbrev pub header_of : Section → List Rec → Rec
header_of s before = first_of (up_to_marker (behind_marker s before))

abbrev pub rows_of : Section → List Rec → List Rec
rows_of s before = rest_of (up_to_marker (behind_marker s before))

-- all that the faults at a record depend on, of the records before it
pub record Before : Type 0 where
  pub role : RecordRole
  pub has_stood : Key → Bool  -- whether an earlier row of META has the key
  pub columns : Columns
  pub ids : List Field
  pub vote_column : Option ℕ
  pub voters : ℕ
  pub approvals : ℕ

unfoldable pub before_of : List Rec → Before
before_of before =
    let columns = columns_of (header_of Projects before) in
    let ids = ids_in columns (rows_of Projects before) in
    let column = vote_column (header_of Votes before) in
    record {
      role = role_of before;
      has_stood = λ key. list_any (has_key key) (rows_of Meta before);
      columns = columns;
      ids = ids;
      vote_column = column;
      voters = length (rows_of Votes before);
      approvals = approvals (ballots_in column ids (rows_of Votes before));
    }

-- The faults at a record.

-- the record is a row of this section
abbrev pub is_row : Section → RecordRole → Rec → Bool
is_row s role r = is_inside s role && not (is_marker r)

-- a marker among the rows of a section that is not the next one's
abbrev pub is_unexpected : RecordRole → Rec → Bool
is_unexpected First r = false
is_unexpected (Header s) r = false
is_unexpected (Inside Meta) r = is_marker r && not (marks Projects r)
is_unexpected (Inside Projects) r = is_marker r && not (marks Votes r)
is_unexpected (Inside Votes) r = is_marker r

abbrev pub is_no_money : Field → Bool
is_no_money text = not (is_ok (money_of text))

-- a header without a needed column, and one in which a read column stands twice (a marker in its place is NoHeader,
-- which comes before)
abbrev pub misses_column : RecordRole → Rec → Bool
misses_column First r = false
misses_column (Header s) r = list_any (λ name. occurrences name r == 0) (needed_columns s)
misses_column (Inside s) r = false

abbrev pub repeats_column : RecordRole → Rec → Bool
repeats_column First r = false
repeats_column (Header s) r = list_any (λ name. nat_lt 1 (occurrences name r)) (read_columns s)
repeats_column (Inside s) r = false

-- the row of a project too many, of a voter too many, or with which the approvals are too many
abbrev pub is_too_many : Before → Rec → Bool
is_too_many b r =
    (is_row Projects b.role r && nat_lt most_projects (length b.ids + 1))
    || (is_row Votes b.role
    r && (nat_lt most_voters (b.voters + 1) || nat_lt most_approvals
    (b.approvals + length (ballot_in b.vote_column b.ids r))))

-- whether a fault stands at the record r, which is not blank
abbrev pub stands : Before → Rec → ElectionFault → Bool
stands b r fault.NotUtf8 = not (is_text r)
stands b r fault.NoMeta = is_first b.role && not (marks Meta r)
stands b r fault.NoHeader = is_header b.role && is_marker r
stands b r fault.MissingSection = false
stands b r fault.UnexpectedSection = is_unexpected b.role r
stands b r fault.MissingKey =
    is_inside Meta b.role && marks Projects r && not (b.has_stood Budget && b.has_stood VoteType)
stands b r fault.RepeatedKey = is_row Meta b.role r && option_map_or b.has_stood (key_in r) false
stands b r fault.NotApproval = is_row Meta b.role r && has_key VoteType r && not (is_approval (value_in r))
stands b r fault.BadMoney =
    (is_row Meta b.role r && has_key Budget r && is_no_money (value_in r))
    || (is_row Projects b.role r && is_no_money (cost_in b.columns r))
stands b r fault.MissingColumn = misses_column b.role r
stands b r fault.RepeatedColumn = repeats_column b.role r
stands b r fault.BadId = is_row Projects b.role r && not (is_id (id_in b.columns r))
stands b r fault.RepeatedProject = is_row Projects b.role r && is_among b.ids (id_in b.columns r)
stands b r fault.UnknownProject = is_row Votes b.role r && not (is_known b.vote_column b.ids r)
stands b r fault.TooMany = is_too_many b r
stands b r fault.Memory = false
stands b r fault.NoOutcome = false

-- whether a fault stands at the end
abbrev pub stands_at_end : Before → ElectionFault → Bool
stands_at_end b fault.NoMeta = is_first b.role
stands_at_end b fault.NoHeader = is_header b.role
stands_at_end b fault.MissingSection = is_inside Meta b.role || is_inside Projects b.role
stands_at_end b _ = false

-- the faults that can stand at a record, in the order of their numbers, from 1
abbrev pub in_order : List ElectionFault
in_order =
    fault.NotUtf8 ∷ fault.NoMeta ∷ fault.NoHeader ∷ fault.MissingSection ∷ fault.UnexpectedSection ∷ fault.MissingKey
    ∷ fault.RepeatedKey ∷ fault.NotApproval ∷ fault.BadMoney ∷ fault.MissingColumn ∷ fault.RepeatedColumn ∷ fault.BadId
    ∷ fault.RepeatedProject ∷ fault.UnknownProject ∷ fault.TooMany ∷ []

-- the fault with the lowest number at a record and at the end
unfoldable pub lowest_fault : Before → Rec → Option ElectionFault
lowest_fault b r = find (stands b r) in_order

unfoldable pub lowest_fault_at_end : Before → Option ElectionFault
lowest_fault_at_end b = find (stands_at_end b) in_order

-- the faults of an election's file
unfoldable pub election_form : Form ElectionFault
election_form before (Some r) = lowest_fault (before_of before) r
election_form before None = lowest_fault_at_end (before_of before)

-- the records are refused at this record for this fault: it has the lowest number there, and no fault stands before
abbrev pub PbFault : List Rec → ℕ → ElectionFault → Type 0
PbFault recs record_number f = IsFirstFault election_form recs record_number f

-- the bytes of a file are refused so
abbrev pub Refuses : List ℕ → Refusal → Type 0
Refuses bytes r = PbFault (election_records bytes) r.record_number r.fault

-- the two refusals that no record causes: memory wanted, and an outcome of an election that states none
abbrev pub no_memory : Refusal
no_memory = record { fault = fault.Memory; record_number = 0 }

abbrev pub no_outcome : Refusal
no_outcome = record { fault = fault.NoOutcome; record_number = 0 }

-- the numbers and the names that faults are printed with
abbrev pub fault_number : ElectionFault → ℕ
fault_number fault.NotUtf8 = 1
fault_number fault.NoMeta = 2
fault_number fault.NoHeader = 3
fault_number fault.MissingSection = 4
fault_number fault.UnexpectedSection = 5
fault_number fault.MissingKey = 6
fault_number fault.RepeatedKey = 7
fault_number fault.NotApproval = 8
fault_number fault.BadMoney = 9
fault_number fault.MissingColumn = 10
fault_number fault.RepeatedColumn = 11
fault_number fault.BadId = 12
fault_number fault.RepeatedProject = 13
fault_number fault.UnknownProject = 14
fault_number fault.TooMany = 15
fault_number fault.Memory = 16
fault_number fault.NoOutcome = 17

abbrev pub fault_name : ElectionFault → List ℕ
fault_name fault.NotUtf8 = codes "NotUtf8"
fault_name fault.NoMeta = codes "NoMeta"
fault_name fault.NoHeader = codes "NoHeader"
fault_name fault.MissingSection = codes "MissingSection"
fault_name fault.UnexpectedSection = codes "UnexpectedSection"
fault_name fault.MissingKey = codes "MissingKey"
fault_name fault.RepeatedKey = codes "RepeatedKey"
fault_name fault.NotApproval = codes "NotApproval"
fault_name fault.BadMoney = codes "BadMoney"
fault_name fault.MissingColumn = codes "MissingColumn"
fault_name fault.RepeatedColumn = codes "RepeatedColumn"
fault_name fault.BadId = codes "BadId"
fault_name fault.RepeatedProject = codes "RepeatedProject"
fault_name fault.UnknownProject = codes "UnknownProject"
fault_name fault.TooMany = codes "TooMany"
fault_name fault.Memory = codes "Memory"
fault_name fault.NoOutcome = codes "NoOutcome"
