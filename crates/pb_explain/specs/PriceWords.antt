-- What is said of each condition on prices. Throughout, unit is how many grains one unit of the currency has, count how
-- many culprits there are, and m the sums that are compared at one place.
use Rattle.std.specs.Prelude.{ℕ, ◌++◌, codes}
use Rattle.pb_election.specs.Instance.{Instance, id_of}
use Rattle.pb_price.specs.declared.Comparison.{Comparison}
use Rattle.pb_records.specs.Records.{Text}
use Rattle.pb_explain.specs.Amounts.{amount, balance}
use Rattle.pb_explain.specs.Rows.{how_many, voter}

-- Feasible
unfoldable pub outcome : ℕ → ℕ → ℕ → Text
outcome unit total limit = codes "the funded projects cost " ++ amount unit total ++ codes "; the limit is "
    ++ amount unit limit

-- Exhaustive: where it holds, and where a project fits
unfoldable pub cheapest : Instance → ℕ → Comparison → Text
cheapest e unit m =
    balance unit m.amount ++ codes " of the limit remains; the cheapest unfunded project, " ++ id_of e m.at
    ++ codes ", costs " ++ amount unit m.bound

unfoldable pub fitting : Instance → ℕ → ℕ → Comparison → Text
fitting e unit count m =
    balance unit m.amount ++ codes " of the limit remains, and project " ++ id_of e m.at
    ++ codes " costs " ++ amount unit m.bound ++ how_many (codes "unfunded projects that still fit") count

-- Cover
unfoldable pub budgets : ℕ → ℕ → ℕ → Text
budgets unit all_budgets limit =
    codes "all voter budgets come to " ++ amount unit all_budgets ++ codes " together; the limit is "
    ++ amount unit limit

-- C1, where a voter pays for a project that it doesn't approve
unfoldable pub unapproved : Instance → ℕ → ℕ → ℕ → Text
unapproved e i j count =
    voter i ++ codes " pays for project " ++ id_of e j ++ codes ", which isn't on its ballot"
    ++ how_many (codes "such payments") count

-- C2: where it holds, and where a voter spends too much
unfoldable pub most_spent : ℕ → Comparison → Text
most_spent unit m =
    voter m.at ++ codes " spends most, " ++ balance unit m.amount
    ++ codes " of its budget of " ++ amount unit m.bound

unfoldable pub overspent : ℕ → ℕ → Comparison → Text
overspent unit count m =
    voter m.at ++ codes " spends " ++ balance unit m.amount
    ++ codes " and has a budget of " ++ amount unit m.bound ++ how_many (codes "voters who spend more than that") count

-- C3, where a funded project isn't paid exactly
unfoldable pub inexact : Instance → ℕ → ℕ → Comparison → Text
inexact e unit count m =
    codes "project " ++ id_of e m.at ++ codes " costs " ++ amount unit m.bound ++ codes ", and "
    ++ balance unit m.amount
    ++ codes " is paid for it" ++ how_many (codes "funded projects not paid exactly") count

-- C4, where an unfunded project is paid for
unfoldable pub unfunded_paid : Instance → ℕ → ℕ → Comparison → Text
unfunded_paid e unit count m =
    balance unit m.amount ++ codes " is paid for project " ++ id_of e m.at ++ codes ", which isn't funded"
    ++ how_many (codes "unfunded projects that are paid for") count

-- C5 and S5: what an unfunded project costs, and the leftovers or the offers of its supporters, at the project that
-- comes closest, and where they are more than it costs
unfoldable pub cost_and_sum : ℕ → Text → Comparison → Text
cost_and_sum unit sums_of m =
    codes " costs " ++ amount unit m.bound ++ codes ", and its supporters' " ++ sums_of ++ codes " come to "
    ++ balance unit m.amount

unfoldable pub comes_closest : Instance → ℕ → Text → Comparison → Text
comes_closest e unit sums_of m =
    codes "project " ++ id_of e m.at ++ (codes ", the closest," ++ cost_and_sum unit sums_of m)

unfoldable pub richer : Instance → ℕ → Text → ℕ → Comparison → Text
richer e unit sums_of count m =
    codes "project " ++ id_of e m.at
    ++ (cost_and_sum unit sums_of m ++ how_many (codes "unfunded projects where that is more than the cost") count)
