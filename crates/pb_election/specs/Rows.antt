-- What the header and the rows of a section state. The places of columns are counted from 0.
use Rattle.std.specs.Prelude.{◌^◌, ◌==◌, ◌&&◌, ◌||◌, not, nat_lt, if◌then◌else◌, Bool, true, false, ℕ, List, [], ◌∷◌, map, find, filter, count_by, Option, Some, None, is_some, codes}
use Rattle.std.specs.Option.{option_and_then, option_map, option_map_or}
use Rattle.std.specs.Result.{result_ok}
use Rattle.std.specs.List.{enumerate_from, list_all, list_any, position_from}
use Rattle.std.specs.Str.{byte, bytes_eq}
use Rattle.pb_money.specs.Digits.{is_empty}
use Rattle.pb_money.specs.Money.{millionths}
use Rattle.pb_money.specs.Whole.{whole_of}
use Rattle.pb_records.specs.Records.{Field, Rec}
use Rattle.pb_records.specs.Cells.{cell, clean}
use Rattle.pb_election.specs.Names.{cut_at, is_among, lower}
use Rattle.pb_election.specs.declared.columns.Columns.{Columns}
use Rattle.pb_election.specs.declared.columns.UnusedColumns.{UnusedColumns}
use Rattle.pb_election.specs.declared.keys.Key.{Key}
use Rattle.pb_election.specs.declared.keys.Key.TheVariants.{Budget, NumProjects, NumVotes, VoteType}
use Rattle.pb_election.specs.declared.sections.Section.{Section}
use Rattle.pb_election.specs.declared.sections.Section.TheVariants.{Meta, Projects, Votes}

-- META: a row has a key and a value

abbrev pub key_named : Field → Option Key
key_named name =
    if bytes_eq name (codes "budget") then Some Budget
    else if bytes_eq name (codes "vote_type") then Some VoteType
    else if bytes_eq name (codes "num_projects") then Some NumProjects
    else if bytes_eq name (codes "num_votes") then Some NumVotes
    else None

-- the key of a row, where it is one that is read
unfoldable pub key_in : Rec → Option Key
key_in row = key_named (lower (cell 0 row))

abbrev pub value_in : Rec → Field
value_in row = cell 1 row

-- the keys that are read
abbrev pub read_keys : List Key
read_keys = Budget ∷ VoteType ∷ NumProjects ∷ NumVotes ∷ []

abbrev pub same_key : Key → Key → Bool
same_key Budget Budget = true
same_key VoteType VoteType = true
same_key NumProjects NumProjects = true
same_key NumVotes NumVotes = true
same_key _ _ = false

-- whether a row has this key
abbrev pub has_key : Key → Rec → Bool
has_key key row = option_map_or (same_key key) (key_in row) false

-- the value of a key, where a row has the key
abbrev pub stated_value : Key → List Rec → Option Field
stated_value key rows = option_map value_in (find (has_key key) rows)

abbrev pub is_approval : Field → Bool
is_approval value = bytes_eq (lower value) (codes "approval")

-- the greatest count that is taken for one
abbrev pub most_declared : ℕ
most_declared = 10 ^ 18

-- the count that a value declares: a whole number within that, and else none
unfoldable pub count_in : Field → Option ℕ
count_in value = result_ok (whole_of most_declared value)

-- the count that the rows declare by a key
abbrev pub declared_count : Key → List Rec → Option ℕ
declared_count key rows = option_and_then count_in (stated_value key rows)

-- PROJECTS and VOTES: the header names the columns

abbrev pub is_named : Field → Field → Bool
is_named name field = bytes_eq (lower (clean field)) name

-- the columns that a section's header must have, and those that are read
abbrev pub needed_columns : Section → List Field
needed_columns Meta = []
needed_columns Projects = codes "project_id" ∷ codes "cost" ∷ []
needed_columns Votes = codes "vote" ∷ []

abbrev pub read_columns : Section → List Field
read_columns Meta = []
read_columns Projects = codes "project_id" ∷ codes "cost" ∷ codes "selected" ∷ []
read_columns Votes = codes "vote" ∷ []

-- how many columns have a name
abbrev pub occurrences : Field → Rec → ℕ
occurrences name header = count_by (is_named name) header

-- the place of the column of a name
abbrev pub column_named : Field → Rec → Option ℕ
column_named name header = position_from (is_named name) 0 header

-- the field of a row in a column, empty where the row is too short
abbrev pub field_in : Option ℕ → Rec → Field
field_in None row = []
field_in (Some i) row = cell i row

-- PROJECTS

-- the places of the columns that are read
abbrev pub columns_of : Rec → Columns
columns_of header =
    record {
      id = column_named (codes "project_id") header;
      cost = column_named (codes "cost") header;
      selected = column_named (codes "selected") header;
    }

abbrev pub id_in : Columns → Rec → Field
id_in columns row = field_in columns.id row

abbrev pub cost_in : Columns → Rec → Field
cost_in columns row = field_in columns.cost row

abbrev pub selected_in : Columns → Rec → Field
selected_in columns row = field_in columns.selected row

-- an id is not empty, and has no byte below 32 and no byte 127
abbrev pub is_control : ℕ → Bool
is_control b = nat_lt b 32 || (b == 127)

unfoldable pub is_id : Field → Bool
is_id id = not (is_empty id) && not (list_any is_control id)

abbrev pub ids_in : Columns → List Rec → List Field
ids_in columns rows = map (id_in columns) rows

abbrev pub costs_in : Columns → List Rec → List ℕ
costs_in columns rows = map (λ row. millionths (cost_in columns row)) rows

-- whether a project is funded, and whether the file says neither yes nor no
abbrev pub says_funded : Field → Bool
says_funded field = bytes_eq field (codes "1")

abbrev pub is_neither : Field → Bool
is_neither field = not (says_funded field) && not (bytes_eq field (codes "0"))

-- which projects are funded, where there is a column for it
abbrev pub funded_in : Columns → List Rec → Option (List Bool)
funded_in columns rows =
    if is_some columns.selected then Some (map (λ row. says_funded (selected_in columns row)) rows) else None

-- whether there is the column, and it says neither yes nor no of a project
abbrev pub says_neither : Columns → Rec → Bool
says_neither columns row = is_some columns.selected && is_neither (selected_in columns row)

-- of how many projects
abbrev pub others_in : Columns → List Rec → ℕ
others_in columns rows = count_by (says_neither columns) rows

-- VOTES

-- the place of the column that is read
abbrev pub vote_column : Rec → Option ℕ
vote_column header = column_named (codes "vote") header

-- which columns that weigh votes a header has: a vote counts the same with them and without
abbrev pub has_column : Field → Rec → Bool
has_column name header = not (occurrences name header == 0)

abbrev pub unused_columns : Rec → UnusedColumns
unused_columns header =
    record {
      weight = has_column (codes "weight") header;
      points = has_column (codes "points") header;
      sign = has_column (codes "sign") header;
    }

-- the ids that a vote names: its pieces between commas, cleaned, but for the empty ones
unfoldable pub names_in : Field → List Field
names_in vote = filter (λ name. not (is_empty name)) (map clean (cut_at (λ b. b == byte ",") vote))

-- the positions, from 1 and rising, of the ids that are named
unfoldable pub positions_of : List Field → List Field → List ℕ
positions_of names ids = map (λ p. p.0) (filter (λ p. is_among names p.1) (enumerate_from 1 ids))

-- the ballot of a row: the set of the projects that its vote names
abbrev pub ballot_in : Option ℕ → List Field → Rec → List ℕ
ballot_in column ids row = positions_of (names_in (field_in column row)) ids

abbrev pub ballots_in : Option ℕ → List Field → List Rec → List (List ℕ)
ballots_in column ids rows = map (ballot_in column ids) rows

-- whether each piece of a row's vote is the id of a project
unfoldable pub is_known : Option ℕ → List Field → Rec → Bool
is_known column ids row = list_all (is_among ids) (names_in (field_in column row))
