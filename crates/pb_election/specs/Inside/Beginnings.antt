-- For the reader's own parts: the ways in which the text of an election can begin, and what has been read of each. What
-- a file states is said in Text and Faults, without this module.
use Rattle.std.specs.Prelude.{◌≡◌, ◌++◌, IfSome, IsTrue, List, [], ◌∷◌, Some}
use Rattle.std.specs.List.{AllByRecursion}
use Rattle.pb_money.specs.Money.{IsMoney}
use Rattle.pb_records.specs.Records.{Rec}
use Rattle.pb_election.specs.declared.keys.Key.TheVariants.{Budget, VoteType}
use Rattle.pb_election.specs.declared.sections.RecordRole.{RecordRole}
use Rattle.pb_election.specs.declared.sections.RecordRole.TheVariants.{First, Header, Inside}
use Rattle.pb_election.specs.declared.sections.Section.TheVariants.{Meta, Projects, Votes}
use Rattle.pb_records.specs.Cells.{is_text}
use Rattle.pb_election.specs.Markers.{marker_of}
use Rattle.pb_election.specs.Rows.{columns_of, ids_in, is_approval, stated_value, vote_column}
use Rattle.pb_election.specs.Text.{AreMetaRows, AreProjectRows, AreVoteRows, EachKeyOnce, IsHeader, IsPart, Part, election_in, part_records}
use Rattle.pb_election.specs.Inside.SoFar.{SoFar, keys_in}

pub data Beginning : Type 0 where
  AtStart : Beginning
  AfterMeta : Rec → Beginning
  InMeta : Part → Beginning
  AfterProjects : Part → Rec → Beginning
  InProjects : Part → Part → Beginning
  AfterVotes : Part → Part → Rec → Beginning
  InVotes : Part → Part → Part → Beginning

abbrev pub beginning_records : Beginning → List Rec
beginning_records AtStart = []
beginning_records (AfterMeta r) = r ∷ []
beginning_records (InMeta a) = part_records a
beginning_records (AfterProjects a r) = part_records a ++ (r ∷ [])
beginning_records (InProjects a b) = part_records a ++ part_records b
beginning_records (AfterVotes a b r) = part_records a ++ (part_records b ++ (r ∷ []))
beginning_records (InVotes a b c) = part_records a ++ (part_records b ++ part_records c)

-- a section of which nothing was read
abbrev pub no_part : Part
no_part = record { marker = []; header = []; rows = [] }

-- what three sections state so far
abbrev pub so_far_in : RecordRole → Part → Part → Part → SoFar
so_far_in role a b c =
    record {
      role = role;
      keys = keys_in a.rows;
      columns = columns_of b.header;
      vote_column = vote_column c.header;
      election = election_in a b c;
    }

abbrev pub so_far_of : Beginning → SoFar
so_far_of AtStart = so_far_in First no_part no_part no_part
so_far_of (AfterMeta r) = so_far_in (Header Meta) no_part no_part no_part
so_far_of (InMeta a) = so_far_in (Inside Meta) a no_part no_part
so_far_of (AfterProjects a r) = so_far_in (Header Projects) a no_part no_part
so_far_of (InProjects a b) = so_far_in (Inside Projects) a b no_part
so_far_of (AfterVotes a b r) = so_far_in (Header Votes) a b no_part
so_far_of (InVotes a b c) = so_far_in (Inside Votes) a b c

-- the rows of META keep its rules so far
pub record GoodMeta (a : Part) : Type 0 where
  pub part : IsPart Meta a
  pub once : EachKeyOnce a.rows
  pub budget : IfSome (stated_value Budget a.rows) IsMoney
  pub vote_type : IfSome (stated_value VoteType a.rows) (λ value. IsTrue (is_approval value))

-- META is whole
pub record AllMeta (a : Part) : Type 0 where
  pub part : IsPart Meta a
  pub rows : AreMetaRows a.rows

pub record GoodProjects (b : Part) : Type 0 where
  pub part : IsPart Projects b
  pub header : IsHeader Projects b.header
  pub rows : AreProjectRows (columns_of b.header) b.rows

pub record GoodVotes (b c : Part) : Type 0 where
  pub part : IsPart Votes c
  pub header : IsHeader Votes c.header
  pub rows : AreVoteRows (vote_column c.header) (ids_in (columns_of b.header) b.rows) c.rows

abbrev pub Good : Beginning → Type 0
Good AtStart = Unit {0}
Good (AfterMeta r) = marker_of r ≡ Some Meta
Good (InMeta a) = GoodMeta a
Good (AfterProjects a r) = AllMeta a × (marker_of r ≡ Some Projects)
Good (InProjects a b) = AllMeta a × GoodProjects b
Good (AfterVotes a b r) = AllMeta a × GoodProjects b × (marker_of r ≡ Some Votes)
Good (InVotes a b c) = AllMeta a × GoodProjects b × GoodVotes b c

-- these records, and no others, have been read
pub record HasRead (s : SoFar) (recs : List Rec) : Type 0 where
  pub beginning : Beginning
  pub good : Good beginning
  pub same : s ≡ so_far_of beginning
  pub records : recs ≡ beginning_records beginning
  pub text : AllByRecursion (λ r. IsTrue (is_text r)) recs
