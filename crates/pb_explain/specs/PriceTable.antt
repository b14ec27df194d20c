-- The table of the conditions on prices, by what each of them comes to.
use Rattle.std.specs.Prelude.{◌==◌, if◌then◌else◌, Bool, ℕ, List, ◌++◌, Option, Some, None, codes, map}
use Rattle.pb_election.specs.Instance.{Instance}
use Rattle.pb_price.specs.Condition.{all_conditions, found, holds, is_asked}
use Rattle.pb_price.specs.declared.Comparison.{Comparison}
use Rattle.pb_price.specs.declared.Finding.{Finding}
use Rattle.pb_price.specs.declared.Findings.{Findings}
use Rattle.pb_price.specs.declared.condition.Condition.{Condition}
use Rattle.pb_price.specs.declared.condition.Condition.TheVariants as condition
use Rattle.pb_cohesion.specs.declared.Mode.{Mode}
use Rattle.pb_records.specs.Records.{Text}
use Rattle.pb_explain.specs.PriceWords as words
use Rattle.pb_explain.specs.Rows.{opening_if}

-- what is said of a condition: a text of its own where nothing was compared, and else of the sums that are shown, in
-- one way where it holds and in another where it fails
abbrev pub told : Text → (Comparison → Text) → (Comparison → Text) → Bool → Option Comparison → Text
told nothing where_holds where_fails it_holds None = nothing
told nothing where_holds where_fails it_holds (Some m) = if it_holds then where_holds m else where_fails m

-- the same of a condition that shows sums only where it fails
abbrev pub told_where_it_fails : Text → (Comparison → Text) → Option Comparison → Text
told_where_it_fails where_holds where_fails None = where_holds
told_where_it_fails where_holds where_fails (Some m) = where_fails m

abbrev pub outcome_told : Findings → Text
outcome_told f = words.outcome f.grains_per_unit f.total f.limit

-- what remains of the limit, against the cost of the cheapest unfunded project or of one that fits
abbrev pub room_told : Instance → Findings → Text
room_told e f =
    told (codes "every project is funded") (words.cheapest e f.grains_per_unit)
    (words.fitting e f.grains_per_unit f.exhaustive.count) (f.exhaustive.count == 0) f.exhaustive.shown

abbrev pub budgets_told : Findings → Text
budgets_told f = words.budgets f.grains_per_unit f.budgets f.limit

abbrev pub payments_told : Instance → ℕ → Option (ℕ × ℕ) → Text
payments_told e count None = codes "no voter pays for a project that isn't on its ballot"
payments_told e count (Some q) = words.unapproved e q.0 q.1 count

abbrev pub spent_told : Findings → Text
spent_told f =
    told (codes "there are no voters") (words.most_spent f.grains_per_unit)
    (words.overspent f.grains_per_unit f.c2.count) (f.c2.count == 0) f.c2.shown

abbrev pub exactly_told : Instance → Findings → Text
exactly_told e f =
    told_where_it_fails (codes "each funded project is paid for exactly")
    (words.inexact e f.grains_per_unit f.c3.count) f.c3.shown

abbrev pub in_vain_told : Instance → Findings → Text
in_vain_told e f =
    told_where_it_fails (codes "nothing is paid for an unfunded project")
    (words.unfunded_paid e f.grains_per_unit f.c4.count) f.c4.shown

-- what the supporters of unfunded projects have left or can offer
abbrev pub supporters_told : Instance → ℕ → Text → Finding → Text
supporters_told e unit sums_of f =
    told (codes "every project is funded") (words.comes_closest e unit sums_of) (words.richer e unit sums_of f.count)
    (f.count == 0) f.shown

abbrev pub condition_told : Instance → Findings → Condition → Text
condition_told e f condition.Feasible = outcome_told f
condition_told e f condition.Exhaustive = room_told e f
condition_told e f condition.Cover = budgets_told f
condition_told e f condition.C1 = payments_told e f.c1.count f.c1.first
condition_told e f condition.C2 = spent_told f
condition_told e f condition.C3 = exactly_told e f
condition_told e f condition.C4 = in_vain_told e f
condition_told e f condition.C5 = supporters_told e f.grains_per_unit (codes "leftovers") f.c5
condition_told e f condition.S5 = supporters_told e f.grains_per_unit (codes "offers") f.s5

-- the name of a condition, as a column
abbrev pub column : Condition → Text
column condition.Feasible = codes "Feasible    "
column condition.Exhaustive = codes "Exhaustive  "
column condition.Cover = codes "Cover       "
column condition.C1 = codes "C1          "
column condition.C2 = codes "C2          "
column condition.C3 = codes "C3          "
column condition.C4 = codes "C4          "
column condition.C5 = codes "C5          "
column condition.S5 = codes "S5          "

-- how a condition is asked for that some mode leaves out
abbrev pub how_to_ask : Condition → Text
how_to_ask condition.Feasible = codes ""
how_to_ask condition.Exhaustive = codes "without --no-exhaustive"
how_to_ask condition.Cover = codes "with --cover"
how_to_ask condition.C1 = codes ""
how_to_ask condition.C2 = codes ""
how_to_ask condition.C3 = codes ""
how_to_ask condition.C4 = codes ""
how_to_ask condition.C5 = codes "without --stable"
how_to_ask condition.S5 = codes "with --stable"

abbrev pub line : Mode → Instance → Findings → Condition → Text
line m e f c = opening_if (is_asked m c) (column c) (how_to_ask c) (holds (found f c)) ++ condition_told e f c

-- the lines, in the order of the conditions
abbrev pub price_table : Mode → Instance → Findings → List Text
price_table m e f = map (line m e f) all_conditions
