-- An election and an outcome of it. Amounts are in millionths of the currency.
use Rattle.std.specs.Prelude.{Bool, true, if◌then◌else◌, ℕ, List, [], ◌∷◌, ◌++◌, codes, count_by, option_map}
use Rattle.serde_json.specs.Data.{Data}
use Rattle.pb_election.specs.Instance.{Instance, projects, voters}
use Rattle.pb_cohesion.specs.Outcome.{total}
use Rattle.pb_election.specs.declared.columns.UnusedColumns.{UnusedColumns}
use Rattle.pb_records.specs.Records.{Text}
use Rattle.pb_json.specs.Members.{amount, answer, count, fields, list, or_null, text}

-- how many projects these marks fund
abbrev pub funded : List Bool → ℕ
funded marks = count_by (λ mark. mark) marks

-- the names of the columns of VOTES that weigh votes and aren't used
abbrev pub column : Text → Bool → List Data
column name has = if has then text name ∷ [] else []

abbrev pub columns : UnusedColumns → List Data
columns unused =
    column (codes "weight") unused.weight
    ++ column (codes "points") unused.points
    ++ column (codes "sign") unused.sign

abbrev pub columns_json : UnusedColumns → Data
columns_json unused = list (columns unused)

-- an election: how many projects and voters it says it has and how many it has, how many projects its own outcome
-- funds, and of how many it says neither yes nor no
abbrev pub election_json : Instance → Data
election_json e = fields (
    (codes "declared_projects", or_null count e.declared_projects)
    ∷ (codes "declared_voters", or_null count e.declared_votes)
    ∷ (codes "funded", or_null count (option_map funded e.selected))
    ∷ (codes "limit", amount e.limit)
    ∷ (codes "other_selected", count e.other_selected)
    ∷ (codes "projects", count (projects e))
    ∷ (codes "unused_columns", columns_json e.unused)
    ∷ (codes "voters", count (voters e))
    ∷ [])

-- an outcome: what the funded projects cost, and how many they are
abbrev pub outcome_json : Instance → List Bool → Data
outcome_json e w = fields (
    (codes "cost", amount (total e w))
    ∷ (codes "funded", count (funded w))
    ∷ [])

-- the answer on an election that was read
abbrev pub read_json : Instance → Data
read_json e = fields (
    (codes "answer", text (answer true))
    ∷ (codes "election", election_json e)
    ∷ (codes "kind", text (codes "election"))
    ∷ (codes "version", count 1)
    ∷ [])
