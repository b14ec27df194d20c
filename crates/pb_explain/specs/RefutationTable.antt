-- The table of the tests of a refutation, by what each of them comes to.
use Rattle.std.specs.Prelude.{◌==◌, ◌^◌, ◌||◌, ◌&&◌, nat_le, nat_lt, Bool, ℕ, List, [], ◌∷◌, ◌++◌, Option, Some, None, codes, decimal, filter, length}
use Rattle.pb_election.specs.Instance.{Instance, all_projects, id_of}
use Rattle.pb_certificate.specs.Refutations.{Weights}
use Rattle.pb_certificate.specs.declared.refutations.weighting.Role.{Role}
use Rattle.pb_cohesion.specs.Refutations.{has_role, is_least, is_left, is_most}
use Rattle.pb_cohesion.specs.declared.MisplacedRows.{MisplacedRows}
use Rattle.pb_cohesion.specs.declared.RefutationFindings.{RefutationFindings}
use Rattle.pb_records.specs.Records.{Text}
use Rattle.pb_explain.specs.Amounts.{amount}
use Rattle.pb_explain.specs.Rows.{how_many, opening}
use Rattle.pb_explain.specs.declared.refutation_table.RowCounts.{RowCounts}

-- how many rows have a role
abbrev pub rows_of : (Role → Bool) → Instance → Weights → ℕ
rows_of is e r = length (filter (has_role is r) (all_projects e))

abbrev pub row_counts : Instance → Weights → RowCounts
row_counts e r = record { least = rows_of is_least e r; most = rows_of is_most e r; left = rows_of is_left e r }

-- U1: where each row fits, and where one doesn't
abbrev pub counted : Text → ℕ → Text
counted role count = role ++ decimal count

unfoldable pub fitting_rows : RowCounts → Text
fitting_rows n =
    codes "each row fits whether its project is funded" ++ counted (codes "; rows of least: ") n.least
    ++ counted (codes ", of most: ") n.most ++ counted (codes ", of left: ") n.left

unfoldable pub misplaced : Instance → ℕ → ℕ → Text
misplaced e j count =
    codes "the row of project " ++ id_of e j ++ codes " doesn't fit whether it is funded"
    ++ how_many (codes "such rows") count

abbrev pub rows_told : Instance → Weights → ℕ → Option ℕ → Text
rows_told e r count None = fitting_rows (row_counts e r)
rows_told e r count (Some j) = misplaced e j count

abbrev pub u1_line : Instance → Weights → MisplacedRows → Text
u1_line e r f = opening (codes "U1          ") (f.count == 0) ++ rows_told e r f.count f.first

-- U2
unfoldable pub budgets_told : ℕ → ℕ → Text
budgets_told counted taken =
    codes "the weights count at most " ++ decimal counted ++ codes " voter budgets, and take " ++ decimal taken

-- the same where stable prices are asked about
unfoldable pub stable_budgets_told : ℕ → ℕ → ℕ → Text
stable_budgets_told stable counted taken =
    codes "the weights count at most " ++ decimal stable ++ codes " voter budgets if prices are stable, and take "
    ++ decimal taken ++ codes "; for all prices they count at most " ++ decimal counted

abbrev pub budgets_line : Option ℕ → ℕ → ℕ → Text
budgets_line None counted taken = opening (codes "U2          ") (nat_le counted taken) ++ budgets_told counted taken
budgets_line (Some stable) counted taken =
    opening (codes "U2          ") (nat_le stable taken) ++ stable_budgets_told stable counted taken

abbrev pub u2_line : RefutationFindings → Text
u2_line f = budgets_line f.counted_stable f.counted f.taken

-- U3: a yes also where the two are alike, if Cover has a weight
abbrev pub costs_differ : ℕ → ℕ → ℕ → Bool
costs_differ least most cover = nat_lt most least || ((most == least) && nat_lt 0 cover)

unfoldable pub least_told : ℕ → ℕ → Text
least_told least cover =
    codes "costs times weights come to " ++ amount (10 ^ 6) least ++ codes " for least and Cover, whose weight is "
    ++ decimal cover

unfoldable pub most_told : ℕ → Text
most_told most = codes ", and to " ++ amount (10 ^ 6) most ++ codes " for most and left"

abbrev pub u3_line : RefutationFindings → Text
u3_line f =
    opening (codes "U3          ") (costs_differ f.at_least f.at_most f.cover)
    ++ least_told f.at_least f.cover ++ most_told f.at_most

-- the lines, in the order of the tests
abbrev pub refutation_table : Instance → Weights → RefutationFindings → List Text
refutation_table e r f = u1_line e r f.misplaced ∷ u2_line f ∷ u3_line f ∷ []
