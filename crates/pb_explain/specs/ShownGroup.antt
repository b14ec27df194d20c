-- The group that is shown of an election, in a table of lines.
use Rattle.std.specs.Prelude.{◌==◌, ◌-◌, ◌*◌, ◌^◌, nat_le, if◌then◌else◌, ℕ, List, [], ◌∷◌, ◌++◌, Option, Some, None, codes, decimal}
use Rattle.pb_election.specs.Instance.{Instance, IsProject, cost_of, id_of, voters}
use Rattle.pb_certificate.specs.declared.violations.measure.Measure.{Measure}
use Rattle.pb_certificate.specs.declared.violations.measure.Measure.TheVariants.{ByCount, ByCost}
use Rattle.pb_cohesion.specs.Shown.{AreSmall}
use Rattle.pb_cohesion.specs.declared.GroupFigures.{GroupFigures}
use Rattle.pb_records.specs.Records.{Text}
use Rattle.pb_explain.specs.Amounts.{amount}
use Rattle.pb_explain.specs.ViolationTable.{measure_words, worth}

-- what the share of the group has to come to, and what it comes to; each millionth is cut into as many parts as there
-- are voters, and of them both are whole numbers
abbrev pub need_of : Instance → GroupFigures → ℕ
need_of e x = voters e * x.need

abbrev pub share_of : Instance → GroupFigures → ℕ
share_of e x = x.voters * e.limit

-- the project, and who approves it
unfoldable pub project_told : Instance → ℕ → ℕ → Text
project_told e c supporters =
    codes "Project     " ++ decimal supporters ++ codes " of " ++ decimal (voters e) ++ codes " voters approve project "
    ++ id_of e c ++ codes ", which costs " ++ amount (10 ^ 6) (cost_of e c)

-- how large the group is, and who its members are
unfoldable pub members_told : Measure → ℕ → ℕ → Text
members_told m members most =
    codes "Group       " ++ decimal members ++ codes " of these: all who got at most " ++ worth m most ++ codes " "
    ++ measure_words m

-- what its share has to come to, and why
abbrev pub need_words : Measure → Text
need_words ByCount = codes "the cost of the project, for each one that a member got at most and once more"
need_words ByCost = codes "the cost of the project and the most that a member got"

unfoldable pub need_told : Measure → ℕ → Text
need_told m need = codes "Need        " ++ amount (10 ^ 6) need ++ codes ": " ++ need_words m

-- what it comes to, where a millionth is cut into so many parts
unfoldable pub share_told : ℕ → ℕ → Text
share_told parts_per_unit share =
    codes "Share       " ++ amount parts_per_unit share ++ codes ": the equal part of the limit for so many voters"

-- what is over, or missing
unfoldable pub over_told : ℕ → ℕ → Text
over_told parts_per_unit over =
    codes "Over        " ++ amount parts_per_unit over ++ codes ": the share is enough, so the group falls short"

unfoldable pub missing_told : ℕ → ℕ → Text
missing_told parts_per_unit missing =
    codes "Missing     " ++ amount parts_per_unit missing
    ++ codes ": no group falls short, and this one comes closest"

abbrev pub difference_told : ℕ → ℕ → ℕ → Text
difference_told parts_per_unit need share =
    if nat_le need share then over_told parts_per_unit (share - need) else missing_told parts_per_unit (need - share)

-- the lines of a group
abbrev pub group_lines : Measure → Instance → GroupFigures → List Text
group_lines m e x =
    project_told e x.project x.supporters
    ∷ members_told m x.voters x.most
    ∷ need_told m x.need
    ∷ share_told (10 ^ 6 * voters e) (share_of e x)
    ∷ difference_told (10 ^ 6 * voters e) (need_of e x) (share_of e x)
    ∷ []

-- where there is no group
abbrev pub no_group : Text
no_group = codes "nobody approves a project that isn't funded, so there is no group to show"

abbrev pub lines_of : Measure → Instance → Option GroupFigures → List Text
lines_of m e None = no_group ∷ []
lines_of m e (Some x) = group_lines m e x

-- the table of the group that is shown, if there is one; without voters there are no shares, and nobody approves a project
abbrev pub shown_table : Measure → Instance → Option GroupFigures → List Text
shown_table m e shown = if voters e == 0 then no_group ∷ [] else lines_of m e shown

-- the figures are of a project of the election, and small enough for the sums
abbrev pub CanBeShown : Instance → GroupFigures → Type 0
CanBeShown e x = IsProject e x.project × AreSmall x
