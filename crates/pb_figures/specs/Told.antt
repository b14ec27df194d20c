-- What a page tells: the answer, and amounts by their names.
use Rattle.std.specs.Prelude.{◌==◌, ◌-◌, ◌+◌, ◌*◌, ◌^◌, ◌&&◌, not, min, max, if◌then◌else◌, ℕ, ℤ, pos, int_lt, nat_le, List, Bool, true, false, Option, Some, None, fold, slice_get, unsigned_abs}
use Rattle.std.specs.Int.{abs_diff}
use Rattle.std.specs.Option.{is_some}
use Rattle.pb_certificate.specs.declared.violations.measure.Measure.{Measure}
use Rattle.pb_certificate.specs.declared.violations.measure.Measure.TheVariants.{ByCost, ByCount}
use Rattle.pb_cohesion.specs.declared.ViolationVerdict.{ViolationVerdict}
use Rattle.pb_cohesion.specs.declared.ViolationVerdict.TheVariants as violation_verdict
use Rattle.pb_cohesion.specs.declared.RefutationVerdict.{RefutationVerdict}
use Rattle.pb_cohesion.specs.declared.RefutationVerdict.TheVariants as refutation_verdict
use Rattle.pb_cohesion.specs.Shown as groups
use Rattle.pb_cohesion.specs.declared.GroupFigures.{GroupFigures}
use Rattle.pb_cohesion.specs.declared.GroupsVerdict.{GroupsVerdict}
use Rattle.pb_cohesion.specs.declared.GroupsVerdict.TheVariants as groups_verdict
use Rattle.pb_price.specs.Condition as price
use Rattle.pb_price.specs.Condition.{finding_in}
use Rattle.pb_price.specs.First.{verdict_of}
use Rattle.pb_price.specs.Told.{first_told}
use Rattle.pb_price.specs.declared.Comparison.{Comparison}
use Rattle.pb_price.specs.declared.Finding.{Finding}
use Rattle.pb_price.specs.declared.condition.Condition.{Condition}
use Rattle.pb_cohesion.specs.declared.Mode.{Mode}
use Rattle.pb_price.specs.declared.ProjectMargins.{ProjectMargins}
use Rattle.pb_price.specs.declared.Verdict.{Verdict}
use Rattle.pb_price.specs.declared.Verdict.TheVariants as verdict
use Rattle.pb_figures.specs.Amounts.{nothing, of, signed}
use Rattle.pb_figures.specs.declared.amounts.Balance.{Balance}
use Rattle.pb_figures.specs.declared.figure.Figure.{Figure}
use Rattle.pb_figures.specs.declared.figure.Figure.TheVariants as figure
use Rattle.pb_figures.specs.declared.refutations.RefutationFigures.{RefutationFigures}
use Rattle.pb_figures.specs.declared.short_groups.ShortFigures.{ShortFigures}
use Rattle.pb_figures.specs.declared.told.CertificateFigures.{CertificateFigures}
use Rattle.pb_figures.specs.declared.told.CertificateFigures.TheVariants as found
use Rattle.pb_words.specs.declared.headlines.Headline.{Headline}
use Rattle.pb_words.specs.declared.headlines.Headline.TheVariants as headline
use Rattle.pb_figures.specs.declared.told.PriceFigures.{PriceFigures}
use Rattle.pb_figures.specs.declared.told.ViolationFigures.{ViolationFigures}

-- the answers in a sentence
abbrev pub price_headline : Bool → Verdict → Headline
price_headline stable verdict.Supported = if stable then headline.SupportedStable else headline.Supported
price_headline stable (verdict.Failed f) = headline.NotSupported

abbrev pub violation_headline : ViolationVerdict → Headline
violation_headline violation_verdict.Violation = headline.Violation
violation_headline (violation_verdict.Failed f) = headline.NoViolation

-- on a refutation, by whether stable prices are asked about
abbrev pub refutation_headline : Bool → RefutationVerdict → Headline
refutation_headline stable refutation_verdict.Unpriceable = headline.Unpriceable
refutation_headline stable refutation_verdict.UnpriceableUnderCover = headline.UnpriceableUnderCover
refutation_headline stable refutation_verdict.UnpriceableStable = headline.UnpriceableStable
refutation_headline stable refutation_verdict.UnpriceableStableUnderCover = headline.UnpriceableStableUnderCover
refutation_headline stable (refutation_verdict.Failed f) =
    if stable then headline.NotRefutedStable else headline.NotRefuted

abbrev pub asks_stable : RefutationFigures → Bool
asks_stable r = is_some r.findings.counted_stable

abbrev pub groups_headline : GroupsVerdict → Headline
groups_headline groups_verdict.Satisfied = headline.NoGroupFallsShort
groups_headline (groups_verdict.Failed c k) = headline.GroupFallsShort

-- whether no group falls short, or else the first project for which one does
abbrev pub verdict_on_groups : ShortFigures → GroupsVerdict
verdict_on_groups g = groups.verdict_of g.groups.items

abbrev pub headline_of : Mode → CertificateFigures → Headline
headline_of m (found.Prices p) = price_headline m.stable (verdict_of (first_told m p.findings))
headline_of m (found.Violation v) = violation_headline v.verdict
headline_of m (found.Refutation r) = refutation_headline (asks_stable r) r.verdict
headline_of m (found.Groups g) = groups_headline (verdict_on_groups g)

-- the largest number that sums are counted to, which no sum of an election comes near
abbrev pub capped : ℕ → ℕ
capped x = min x (2 ^ 128 - 1)

-- how far an amount is from a bound
abbrev pub distance : ℤ → ℕ → ℕ
distance amount bound =
    if int_lt amount (pos 0) then capped (bound + unsigned_abs amount)
    else abs_diff bound (unsigned_abs amount)

-- what is paid for all projects together
abbrev pub spent : List ProjectMargins → ℕ
spent projects = fold (λ sum project. capped (sum + project.paid)) 0 projects

-- the place of a number that begins with 1, in a list
abbrev pub at : {A : Type 0} → List A → ℕ → Option A
at xs j = if j == 0 then None else slice_get xs (j - 1)

-- an amount of what is there
abbrev pub amount_in : {A : Type 0} → (A → Balance) → Option A → Balance
amount_in amount None = nothing
amount_in amount (Some a) = amount a

abbrev pub of_project : (ProjectMargins → Balance) → PriceFigures → ℕ → Balance
of_project amount p j = amount_in amount (at p.margins.projects.items j)

-- the two sums that a condition on voters or on projects shows
abbrev pub shown_by : Option Finding → Option Comparison
shown_by None = None
shown_by (Some f) = f.shown

abbrev pub shown : PriceFigures → Condition → Option Comparison
shown p c = shown_by (finding_in (price.found p.findings c))

-- the amounts of prices
abbrev pub price_amount : PriceFigures → Figure → Balance
price_amount p figure.Limit = of p.findings.limit
price_amount p figure.Funded = of p.findings.total
price_amount p figure.Remains = of (abs_diff p.findings.limit p.findings.total)
price_amount p figure.VoterBudget = of p.findings.voter_budget
price_amount p figure.Budgets = of p.findings.budgets
price_amount p figure.Spent = of (spent p.margins.projects.items)
price_amount p figure.Unspent = of (abs_diff p.findings.budgets (spent p.margins.projects.items))
price_amount p (figure.Cost j) = of_project (λ m. of m.cost) p j
price_amount p (figure.Paid j) = of_project (λ m. of m.paid) p j
price_amount p (figure.Left j) = of_project (λ m. signed m.left) p j
price_amount p (figure.Offer j) = of_project (λ m. signed m.offer) p j
price_amount p (figure.PaidOff j) = of_project (λ m. of (abs_diff m.paid m.cost)) p j
price_amount p (figure.LeftOff j) = of_project (λ m. of (distance m.left m.cost)) p j
price_amount p (figure.OfferOff j) = of_project (λ m. of (distance m.offer m.cost)) p j
price_amount p (figure.Bound c) = amount_in (λ s. of s.bound) (shown p c)
price_amount p (figure.Amount c) = amount_in (λ s. signed s.amount) (shown p c)
price_amount p (figure.AmountOff c) = amount_in (λ s. of (distance s.amount s.bound)) (shown p c)
price_amount p figure.Demand = nothing
price_amount p figure.Share = nothing
price_amount p figure.ShareOff = nothing
price_amount p figure.Gets = nothing
price_amount p figure.Worth = nothing
price_amount p figure.PaidAtLeast = nothing
price_amount p figure.PaidAtMost = nothing
price_amount p (figure.Part k) = nothing
price_amount p (figure.Need k) = nothing
price_amount p (figure.Most k) = nothing

-- Where it is about a group a millionth of the currency has as many grains as there are voters, or one where there are
-- none. So what falls to a group is a whole number of them.
abbrev pub grains_among : ℕ → ℕ → ℕ
grains_among voters millionths = capped (millionths * max voters 1)

abbrev pub grains_of : ViolationFigures → ℕ → ℕ
grains_of v millionths = grains_among v.voters millionths

abbrev pub grains_of_violation : ViolationFigures → ℕ
grains_of_violation v = 10 ^ 6 * max v.voters 1

-- the group's share of the limit: the limit by the number of voters, for each of its members
abbrev pub share : ViolationFigures → ℕ
share v = v.limit * v.findings.members

-- what projects are worth, where that is an amount
abbrev pub amount_by : Measure → ℕ → Balance
amount_by ByCost grains = of grains
amount_by ByCount grains = nothing

abbrev pub worth : ViolationFigures → ℕ → Balance
worth v projects = amount_by v.violation.measure (grains_of v projects)

-- the amounts of a violation
abbrev pub violation_amount : ViolationFigures → Figure → Balance
violation_amount v figure.Limit = of (grains_of v v.limit)
violation_amount v figure.Funded = of (grains_of v v.funded)
violation_amount v figure.Remains = of (grains_of v (abs_diff v.limit v.funded))
violation_amount v (figure.Cost j) = amount_in (λ cost. of (grains_of v cost)) (at v.costs.items j)
violation_amount v figure.Demand = of (grains_of v v.findings.cost)
violation_amount v figure.Share = of (share v)
violation_amount v figure.ShareOff = of (abs_diff (grains_of v v.findings.cost) (share v))
violation_amount v figure.Gets = worth v v.findings.gets
violation_amount v figure.Worth = worth v v.findings.demanded
violation_amount v _ = nothing

-- What is told of a refutation is of stable prices alone where these are asked about, and the weights don't refute all
-- prices. How often budgets are counted then is told for stable prices too.
abbrev pub refutes_all : RefutationVerdict → Bool
refutes_all refutation_verdict.Unpriceable = true
refutes_all refutation_verdict.UnpriceableUnderCover = true
refutes_all refutation_verdict.UnpriceableStable = false
refutes_all refutation_verdict.UnpriceableStableUnderCover = false
refutes_all (refutation_verdict.Failed f) = false

abbrev pub tells_of_stable : RefutationFigures → Bool
tells_of_stable r = not (refutes_all r.verdict) && asks_stable r

abbrev pub counted_by : Bool → ℕ → Option ℕ → ℕ
counted_by stable plain None = plain
counted_by stable plain (Some n) = if stable then n else plain

abbrev pub counted : RefutationFigures → ℕ
counted r = counted_by (tells_of_stable r) r.findings.counted r.findings.counted_stable

abbrev pub budgets_suffice : RefutationFigures → Bool
budgets_suffice r = nat_le (counted r) r.findings.taken

-- the amounts of a refutation, in millionths
abbrev pub refutation_amount : RefutationFigures → Figure → Balance
refutation_amount r figure.Limit = of r.limit
refutation_amount r figure.Funded = of r.funded
refutation_amount r figure.Remains = of (abs_diff r.limit r.funded)
refutation_amount r (figure.Cost j) = amount_in of (at r.costs.items j)
refutation_amount r figure.PaidAtLeast = of r.findings.at_least
refutation_amount r figure.PaidAtMost = of r.findings.at_most
refutation_amount r _ = nothing

-- the part of the limit that falls to a group that is told, and what that member of it got that got most, where that is
-- an amount
abbrev pub part : ShortFigures → GroupFigures → ℕ
part g x = g.limit * x.voters

abbrev pub most : ShortFigures → GroupFigures → Balance
most g x = amount_by g.measure (grains_among g.voters x.most)

-- the amounts of groups that fall short, whose rows are numbered from 1
abbrev pub groups_amount : ShortFigures → Figure → Balance
groups_amount g figure.Limit = of (grains_among g.voters g.limit)
groups_amount g figure.Funded = of (grains_among g.voters g.funded)
groups_amount g figure.Remains = of (grains_among g.voters (abs_diff g.limit g.funded))
groups_amount g (figure.Cost j) = amount_in (λ cost. of (grains_among g.voters cost)) (at g.costs.items j)
groups_amount g (figure.Part k) = amount_in (λ x. of (part g x)) (at g.groups.items k)
groups_amount g (figure.Need k) = amount_in (λ x. of (grains_among g.voters x.need)) (at g.groups.items k)
groups_amount g (figure.Most k) = amount_in (most g) (at g.groups.items k)
groups_amount g _ = nothing

abbrev pub amount_of : CertificateFigures → Figure → Balance
amount_of (found.Prices p) f = price_amount p f
amount_of (found.Violation v) f = violation_amount v f
amount_of (found.Refutation r) f = refutation_amount r f
amount_of (found.Groups g) f = groups_amount g f

-- how many grains one unit of the currency has
abbrev pub grains_per_unit : CertificateFigures → ℕ
grains_per_unit (found.Prices p) = p.findings.grains_per_unit
grains_per_unit (found.Violation v) = grains_of_violation v
grains_per_unit (found.Refutation r) = 10 ^ 6
grains_per_unit (found.Groups g) = 10 ^ 6 * max g.voters 1
