-- What is said of groups behind the table of a yes to prices.
use Rattle.std.specs.Prelude.{◌*◌, ◌^◌, ℕ, List, [], ◌∷◌, ◌++◌, Option, Some, None, codes, decimal}
use Rattle.pb_election.specs.Instance.{Instance, cost_of, id_of, voters}
use Rattle.pb_price.specs.declared.OnGroups.{OnGroups}
use Rattle.pb_price.specs.declared.OnGroups.TheVariants.{Strict, Weak, Little}
use Rattle.pb_records.specs.Records.{Text}
use Rattle.pb_explain.specs.Amounts.{amount}
use Rattle.pb_price.specs.declared.nearest.NearestGroup.{NearestGroup}

-- Little is said where all voter budgets together are less than the limit.
abbrev pub not_shown : Text
not_shown =
    codes "of groups of voters this says little: all voter budgets together are less than the limit"

-- the weak case (SharesAreWithinReach), and the strict one (NoGroupIsPassedOver)
abbrev pub within_reach : Text
within_reach =
    codes "take any voters who all approve an unfunded project: their equal part of the limit is no more than that project's cost plus the cost of all funded projects that at least one of them approves"

abbrev pub below_reach : Text
below_reach =
    codes "take any voters who all approve an unfunded project: their equal part of the limit is less than that project's cost plus the cost of all funded projects that at least one of them approves"

abbrev pub claim : OnGroups → Text
claim Strict = below_reach
claim Weak = within_reach
claim Little = not_shown

-- The project whose supporters come nearest, with their share. Where a millionth is cut into as many parts as there are
-- voters, that is a whole number of parts.
abbrev pub project_told : Instance → ℕ → Text
project_told e c = codes "nearest to that comes project " ++ id_of e c

unfoldable pub share_told : ℕ → ℕ → ℕ → Text
share_told supporters parts_per_unit parts =
    codes ": the share of its " ++ decimal supporters ++ codes " supporters is " ++ amount parts_per_unit parts

unfoldable pub costs_told : ℕ → ℕ → Text
costs_told cost funded_for =
    codes ", it costs " ++ amount (10 ^ 6) cost ++ codes ", and " ++ amount (10 ^ 6) funded_for
    ++ codes " was funded for them"

abbrev pub nearest_line : Instance → NearestGroup → Text
nearest_line e g =
    project_told e g.project
    ++ (share_told g.supporters (10 ^ 6 * voters e) (g.supporters * e.limit)
    ++ costs_told (cost_of e g.project) g.funded_for)

abbrev pub nearest_lines : Instance → Option NearestGroup → List Text
nearest_lines e None = []
nearest_lines e (Some g) = nearest_line e g ∷ []

-- what is said of groups, and which comes nearest to it
abbrev pub group_lines : Instance → OnGroups → Option NearestGroup → List Text
group_lines e said nearest = claim said ∷ nearest_lines e nearest
