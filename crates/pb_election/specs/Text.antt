-- The text of an election: all its records as one whole. The format is that of Pabulib's .pb files, in the profile that
-- docs/FORMATS.md describes.
use Rattle.std.specs.Prelude.{◌≡◌, ◌≤◌, ◌++◌, ◌∷◌, IsTrue, IsSomeAnd, IfSome, ℕ, List, count_by, length, Option, Some, None}
use Rattle.std.specs.Option.{option_map_or}
use Rattle.std.specs.List.{AllByRecursion, IsDistinct}
use Rattle.std.specs.Str.{bytes_eq, is_utf8}
use Rattle.pb_money.specs.Money.{IsMoney, millionths, most_money}
use Rattle.pb_records.specs.Records.{Field, Rec, election_records}
use Rattle.pb_election.specs.Instance.{Instance, IsBallot, approvals, most_approvals, most_projects, most_voters, projects, voters}
use Rattle.pb_records.specs.Cells.{clean, is_text, nonblank}
use Rattle.pb_election.specs.Markers.{marker_of}
use Rattle.pb_election.specs.Rows.{ballots_in, columns_of, cost_in, costs_in, declared_count, funded_in, has_key, id_in, ids_in, is_approval, is_id, is_known, needed_columns, others_in, read_columns, read_keys, stated_value, occurrences, unused_columns, vote_column}
use Rattle.pb_election.specs.declared.columns.Columns.{Columns}
use Rattle.pb_election.specs.declared.keys.Key.TheVariants.{Budget, NumProjects, NumVotes, VoteType}
use Rattle.pb_election.specs.declared.sections.Section.{Section}
use Rattle.pb_election.specs.declared.sections.Section.TheVariants.{Meta, Projects, Votes}

-- a section: its marker, its header and its rows
pub record Part : Type 0 where
  pub marker : Rec
  pub header : Rec
  pub rows : List Rec

abbrev pub part_records : Part → List Rec
part_records part = part.marker ∷ part.header ∷ part.rows

-- the part is that section: its first record marks it, and no other record marks any
pub record IsPart (s : Section) (part : Part) : Type 0 where
  pub marker : marker_of part.marker ≡ Some s
  pub others : AllByRecursion (λ r. marker_of r ≡ None) (part.header ∷ part.rows)

-- a header has each needed column, and each column that is read only once
pub record IsHeader (s : Section) (header : Rec) : Type 0 where
  pub needed : AllByRecursion (λ name. 1 ≤ occurrences name header) (needed_columns s)
  pub once : AllByRecursion (λ name. occurrences name header ≤ 1) (read_columns s)

-- each key that is read stands in one row at most
abbrev pub EachKeyOnce : List Rec → Type 0
EachKeyOnce rows = AllByRecursion (λ key. count_by (has_key key) rows ≤ 1) read_keys

-- the rows of META state a budget and say that the ballots are approvals, with each read key once
pub record AreMetaRows (rows : List Rec) : Type 0 where
  pub once : EachKeyOnce rows
  pub budget : IsSomeAnd (stated_value Budget rows) IsMoney
  pub vote_type : IsSomeAnd (stated_value VoteType rows) (λ value. IsTrue (is_approval value))

-- each row of PROJECTS states a project, and no two have one id
pub record AreProjectRows (columns : Columns) (rows : List Rec) : Type 0 where
  pub ids : AllByRecursion (λ row. IsTrue (is_id (id_in columns row))) rows
  pub costs : AllByRecursion (λ row. IsMoney (cost_in columns row)) rows
  pub distinct : IsDistinct bytes_eq (ids_in columns rows)
  pub few : length rows ≤ most_projects

-- each row of VOTES states a set of projects, in the column at this place
pub record AreVoteRows (column : Option ℕ) (ids : List Field) (rows : List Rec) : Type 0 where
  pub known : AllByRecursion (λ row. IsTrue (is_known column ids row)) rows
  pub few : length rows ≤ most_voters
  pub few_approvals : approvals (ballots_in column ids rows) ≤ most_approvals

-- the election that three sections state
abbrev pub election_in : Part → Part → Part → Instance
election_in meta projects votes =
    let columns = columns_of projects.header in
    let ids = ids_in columns projects.rows in
    record {
      limit = option_map_or millionths (stated_value Budget meta.rows) 0;
      ids = ids;
      costs = costs_in columns projects.rows;
      selected = funded_in columns projects.rows;
      other_selected = others_in columns projects.rows;
      declared_projects = declared_count NumProjects meta.rows;
      declared_votes = declared_count NumVotes meta.rows;
      unused = unused_columns votes.header;
      ballots = ballots_in (vote_column votes.header) ids votes.rows;
    }

-- the records are the text of the election e
pub record PbText (recs : List Rec) (e : Instance) : Type 0 where
  pub meta : Part
  pub projects : Part
  pub votes : Part
  -- the records that are not blank are the three sections, and each is text
  pub cut : nonblank recs ≡ part_records meta ++ (part_records projects ++ part_records votes)
  pub text : AllByRecursion (λ r. IsTrue (is_text r)) (nonblank recs)
  pub is_meta : IsPart Meta meta
  pub is_projects : IsPart Projects projects
  pub is_votes : IsPart Votes votes
  -- the headers of PROJECTS and VOTES name the columns, and each row keeps the rules of its section
  pub project_header : IsHeader Projects projects.header
  pub vote_header : IsHeader Votes votes.header
  pub meta_rows : AreMetaRows meta.rows
  pub project_rows : AreProjectRows (columns_of projects.header) projects.rows
  pub vote_rows : AreVoteRows (vote_column votes.header) (ids_in (columns_of projects.header) projects.rows) votes.rows
  pub states : e ≡ election_in meta projects votes

-- the bytes of a file are the text of the election e
abbrev pub IsTextOf : List ℕ → Instance → Type 0
IsTextOf bytes e = PbText (election_records bytes) e

-- an id is UTF-8, has nothing to be cleaned away, is not empty, and has no control byte
pub record IsId (id : Field) : Type 0 where
  pub text : IsTrue (is_utf8 id)
  pub clean : clean id ≡ id
  pub bytes : IsTrue (is_id id)

-- what holds of each election that has a text
pub record IsElection (e : Instance) : Type 0 where
  pub limit : e.limit ≤ most_money
  pub ids : AllByRecursion IsId e.ids
  pub distinct : IsDistinct bytes_eq e.ids
  pub as_many_costs : length e.costs ≡ projects e
  pub costs : AllByRecursion (λ c. c ≤ most_money) e.costs
  pub as_many_selected : IfSome e.selected (λ marks. length marks ≡ projects e)
  pub other_selected : e.other_selected ≤ projects e
  pub ballots : AllByRecursion (IsBallot e) e.ballots
  pub few_projects : projects e ≤ most_projects
  pub few_voters : voters e ≤ most_voters
  pub few_approvals : approvals e.ballots ≤ most_approvals
