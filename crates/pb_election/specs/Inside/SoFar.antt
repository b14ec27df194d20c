-- For the reader's own parts: what has been read of an election so far, and what one more record adds to it. What a
-- file states is said in Text and Faults, without this module.
use Rattle.std.specs.Prelude.{◌≡◌, ◌+◌, ◌++◌, ⊤, if◌then◌else◌, Bool, true, ℕ, List, [], ◌∷◌, Option, Some, None, Result, Ok, Err}
use Rattle.std.specs.List.{list_any}
use Rattle.std.specs.Option.{option_map}
use Rattle.pb_money.specs.Money.{millionths}
use Rattle.pb_records.specs.Records.{Field, Rec}
use Rattle.pb_election.specs.Instance.{Instance, approvals, voters}
use Rattle.pb_election.specs.declared.columns.Columns.{Columns}
use Rattle.pb_election.specs.declared.keys.Key.{Key}
use Rattle.pb_election.specs.declared.keys.Key.TheVariants.{Budget, NumProjects, NumVotes, VoteType}
use Rattle.pb_election.specs.declared.keys.Keys.{Keys}
use Rattle.pb_election.specs.declared.sections.RecordRole.{RecordRole}
use Rattle.pb_election.specs.declared.sections.RecordRole.TheVariants.{First, Header, Inside}
use Rattle.pb_election.specs.declared.sections.Section.TheVariants.{Meta, Projects, Votes}
use Rattle.pb_election.specs.declared.refusal.ElectionFault.{ElectionFault}
use Rattle.pb_records.specs.declared.drafts.Stop.{Stop}
use Rattle.pb_records.specs.declared.drafts.Stop.TheVariants.{Fault, Memory}
use Rattle.pb_election.specs.Markers.{is_marker}
use Rattle.pb_election.specs.Rows.{ballot_in, columns_of, cost_in, count_in, funded_in, has_key, id_in, key_in, says_funded, says_neither, selected_in, unused_columns, value_in, vote_column}
use Rattle.pb_election.specs.Faults.{Before, lowest_fault}

pub record SoFar : Type 0 where
  pub role : RecordRole  -- of the next record
  pub keys : Keys  -- those that have stood
  pub columns : Columns
  pub vote_column : Option ℕ
  pub election : Instance

-- which of the keys that are read stand in some rows
abbrev pub keys_in : List Rec → Keys
keys_in rows =
    record {
      budget = list_any (has_key Budget) rows;
      vote_type = list_any (has_key VoteType) rows;
      num_projects = list_any (has_key NumProjects) rows;
      num_votes = list_any (has_key NumVotes) rows;
    }

-- whether a key is one of those that stand in some rows
abbrev pub has_stood : Keys → Key → Bool
has_stood keys Budget = keys.budget
has_stood keys VoteType = keys.vote_type
has_stood keys NumProjects = keys.num_projects
has_stood keys NumVotes = keys.num_votes

-- what the faults at the next place depend on
abbrev pub before_next : SoFar → Before
before_next s =
    record {
      role = s.role;
      has_stood = λ key. has_stood s.keys key;
      columns = s.columns;
      ids = s.election.ids;
      vote_column = s.vote_column;
      voters = voters s.election;
      approvals = approvals s.election.ballots;
    }

-- one more row of META: its key has stood, and its value is stated
abbrev pub with_key : Option Key → Keys → Keys
with_key None keys = keys
with_key (Some Budget) keys = record keys { budget = true }
with_key (Some VoteType) keys = record keys { vote_type = true }
with_key (Some NumProjects) keys = record keys { num_projects = true }
with_key (Some NumVotes) keys = record keys { num_votes = true }

abbrev pub with_value : Option Key → Field → Instance → Instance
with_value (Some Budget) value e = record e { limit = millionths value }
with_value (Some NumProjects) value e = record e { declared_projects = count_in value }
with_value (Some NumVotes) value e = record e { declared_votes = count_in value }
with_value _ value e = e

-- one more row of PROJECTS
abbrev pub with_project : Columns → Rec → Instance → Instance
with_project columns r e =
    record e {
      ids = e.ids ++ (id_in columns r ∷ []);
      costs = e.costs ++ (millionths (cost_in columns r) ∷ []);
      selected = option_map (λ marks. marks ++ (says_funded (selected_in columns r) ∷ [])) e.selected;
      other_selected = e.other_selected + (if says_neither columns r then 1 else 0);
    }

-- one more row of VOTES
abbrev pub with_ballot : Option ℕ → Rec → Instance → Instance
with_ballot column r e = record e { ballots = e.ballots ++ (ballot_in column e.ids r ∷ []) }

-- one more record, at which no fault stands
abbrev pub next_by : RecordRole → SoFar → Rec → SoFar
next_by First s r = record s { role = Header Meta }
next_by (Header Meta) s r = record s { role = Inside Meta }
next_by (Header Projects) s r =
    record s {
      role = Inside Projects;
      columns = columns_of r;
      election = record s.election { selected = funded_in (columns_of r) [] };
    }
next_by (Header Votes) s r =
    record s {
      role = Inside Votes;
      vote_column = vote_column r;
      election = record s.election { unused = unused_columns r };
    }
next_by (Inside Meta) s r =
    if is_marker r then record s { role = Header Projects }
    else record s { keys = with_key (key_in r) s.keys; election = with_value (key_in r) (value_in r) s.election }
next_by (Inside Projects) s r =
    if is_marker r then record s { role = Header Votes }
    else record s { election = with_project s.columns r s.election }
next_by (Inside Votes) s r = record s { election = with_ballot s.vote_column r s.election }

abbrev pub next : SoFar → Rec → SoFar
next s r = next_by s.role s r

-- what the answer to one more record says: no fault stands there and it was taken, or which fault there has the lowest
-- number; nothing where memory was refused
abbrev pub Steps : {T : Type 0} → Result T (Stop ElectionFault) → SoFar → SoFar → Rec → Type 0
Steps (Ok x) old new r = (lowest_fault (before_next old) r ≡ None) × (new ≡ next old r)
Steps (Err (Fault f)) old new r = lowest_fault (before_next old) r ≡ Some f
Steps (Err Memory) old new r = ⊤
