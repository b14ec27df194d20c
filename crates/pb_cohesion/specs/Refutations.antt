-- When weights refute all prices for an outcome w, and when they refute all stable ones.
--
-- Take any prices that support w. By C5 the supporters of an unfunded project have at most its cost left. By C3 what is
-- paid for a funded project is its cost: at least that, and at most. The weights say how many times each of these
-- inequalities is taken; Cover's weight says how many times it is taken that all budgets together are more than the
-- limit. By C1, C2 and C4 a voter pays out of its budget, and for funded projects of its ballot alone. So where the tests
-- hold, what is taken adds up to something false, and there are no such prices.
use Rattle.std.specs.Prelude.{◌≡◌, ◌<◌, ◌≤◌, ◌+◌, ◌*◌, ◌⊎◌, ◌&&◌, ◌+ℤ◌, ◌-ℤ◌, ◌*ℤ◌, ◌<ℤ◌, neg_ℤ, not, nat_le, if◌then◌else◌, IsFalse, IsTrue, ℕ, ℤ, pos, negsuc, Bool, true, false, List, Option, Some, None, filter, length, min, slice_index_or, sum_by}
use Rattle.std.specs.List.{range_with_len}
use Rattle.std.specs.Option.{option_map_or}
use Rattle.pb_election.specs.Instance.{Instance, IsProject, all_projects, all_voters, approves, cost_of, supporters, voters}
use Rattle.pb_election.specs.Outcome.{has}
use Rattle.pb_certificate.specs.Prices.{Prices}
use Rattle.pb_certificate.specs.Refutations.{Weights, row_of, weight}
use Rattle.pb_certificate.specs.declared.refutations.weighting.Role.{Role}
use Rattle.pb_certificate.specs.declared.refutations.weighting.Role.TheVariants.{Least, Most, Left}
use Rattle.pb_certificate.specs.declared.refutations.weighting.Weighting.{Weighting}
use Rattle.pb_cohesion.specs.Amounts.{largest_by}
use Rattle.pb_cohesion.specs.Conditions.{C1, C2, C3, C4, C5, Cover, S5, sum_ℤ}
use Rattle.pb_cohesion.specs.Groups.{gets}
use Rattle.pb_cohesion.specs.Outcome.{funded, unfunded}

-- U1. A row `left` is for an unfunded project, and a row `least` or `most` for a funded one. A project without a row suits
-- each outcome.
abbrev pub is_left : Role → Bool
is_left Least = false
is_left Most = false
is_left Left = true

abbrev pub suits : Bool → Option Weighting → Bool
suits is_funded None = true
suits is_funded (Some x) = if is_funded then not (is_left x.role) else is_left x.role

-- each row suits the outcome, and the projects whose row doesn't, the lowest first
abbrev pub RowsSuit : Instance → List Bool → Weights → Type 0
RowsSuit e w r = (c : ℕ) → IsProject e c → IsTrue (suits (has w c) (row_of r c))

abbrev pub culprits_of_U1 : Instance → List Bool → Weights → List ℕ
culprits_of_U1 e w r = filter (λ c. not (suits (has w c) (row_of r c))) (all_projects e)

-- s(c), the signed weight of a funded project: the weight of a row `least`, less than 0 the weight of a row `most`, and 0
-- without a row
abbrev pub signed_by : Role → ℕ → ℤ
signed_by Least k = pos k
signed_by Most k = neg_ℤ (pos k)
signed_by Left k = pos 0

abbrev pub signed : Weights → ℕ → ℤ
signed r c = option_map_or (λ x. signed_by x.role x.weight) (row_of r c) (pos 0)

-- the unfunded projects of a voter's ballot, and Z(i), what they weigh together
abbrev pub misses : Instance → List Bool → ℕ → List ℕ
misses e w i = filter (λ c. approves e i c && not (has w c)) (all_projects e)

abbrev pub missed : Instance → List Bool → Weights → ℕ → ℕ
missed e w r i = sum_by (weight r) (misses e w i)

-- s(c) + Z(i): so often a payment of voter i for a funded project c counts, where Z(i) is z
abbrev pub counts : Weights → ℕ → ℕ → ℤ
counts r z c = signed r c +ℤ pos z

-- the larger of 0 and an integer
abbrev pub positive_part : ℤ → ℕ
positive_part (pos n) = n
positive_part (negsuc n) = 0

-- U(i), the gain of voter i: the largest of 0 and of s(c) + Z(i) over the funded projects c of its ballot
abbrev pub gain : Instance → List Bool → Weights → ℕ → ℕ
gain e w r i = largest_by (λ c. positive_part (counts r (missed e w r i) c)) (gets e w i)

-- Of stable prices it is taken, in place of what voters have left, that supporters offer at most the cost, each the
-- larger of what it has left and its largest payment. So a voter's offer is taken Z(i) times, and no payment is more than
-- the offer. Where the payments of a voter count more than x times, so many offers make up for the rest: what they count
-- above x, together. Offers may do so at most x times, and at most Z(i) times. Then its budget counts x times.

-- what payments for the projects of a list count above x: the sum of what each of s(c) + z has above x
abbrev pub above : Weights → ℕ → List ℕ → ℕ → ℕ
above r z cs x = sum_by (λ c. positive_part (counts r z c -ℤ pos x)) cs

-- offers make up for what the payments of voter i count above x
abbrev pub OffersMakeUp : Instance → List Bool → Weights → ℕ → ℕ → Type 0
OffersMakeUp e w r i x = above r (missed e w r i) (gets e w i) x ≤ min x (missed e w r i)

abbrev pub is_made_up : Weights → ℕ → List ℕ → ℕ → Bool
is_made_up r z cs x = nat_le (above r z cs x) (min x z)

-- a number has a property, and no smaller one has it
abbrev pub IsLeast : (ℕ → Type 0) → ℕ → Type 0
IsLeast P x = P x × ((y : ℕ) → P y → x ≤ y)

-- the least number below n that passes a test, and n where there is none
abbrev pub least_below : ℕ → (ℕ → Bool) → ℕ
least_below n passes = slice_index_or (filter passes (range_with_len 0 n)) 0 n

-- X(i), the gain of voter i where prices are stable: the least x for which offers make up for what its payments count
-- above it. It is no more than the gain, above which there is nothing.
abbrev pub stable_gain : Instance → List Bool → Weights → ℕ → ℕ
stable_gain e w r i = least_below (gain e w r i) (is_made_up r (missed e w r i) (gets e w i))

-- U2 compares how often budgets are counted, for each voter as often as its gain says and as the weight of Cover does,
-- with how often they are taken: once for each unfunded project of the voter's ballot, by the project's weight.
abbrev pub counted : (ℕ → ℕ) → Instance → Weights → ℕ
counted gains e r = sum_by gains (all_voters e) + voters e * r.cover

abbrev pub budgets_counted : Instance → List Bool → Weights → ℕ
budgets_counted e w r = counted (gain e w r) e r

abbrev pub stable_budgets_counted : Instance → List Bool → Weights → ℕ
stable_budgets_counted e w r = counted (stable_gain e w r) e r

abbrev pub budgets_taken : Instance → List Bool → Weights → ℕ
budgets_taken e w r = sum_by (λ c. weight r c * length (supporters e c)) (unfunded e w)

-- U3 compares P with Q. P is what the funded projects cost, each by its signed weight, and the limit by the weight of
-- Cover. Q is what the unfunded projects cost, each by its weight. Both are in millionths.
abbrev pub paid_cost : Instance → List Bool → Weights → ℤ
paid_cost e w r = sum_ℤ (λ c. signed r c *ℤ pos (cost_of e c)) (funded e w) +ℤ pos (r.cover * e.limit)

abbrev pub left_cost : Instance → List Bool → Weights → ℕ
left_cost e w r = sum_by (λ c. weight r c * cost_of e c) (unfunded e w)

-- P is more than Q, or as much where Cover has a weight
abbrev pub CostsDiffer : Instance → List Bool → Weights → Type 0
CostsDiffer e w r =
    (pos (left_cost e w r) <ℤ paid_cost e w r) ⊎ ((pos (left_cost e w r) ≡ paid_cost e w r) × (0 < r.cover))

-- the three tests hold, where these are the gains of the voters
pub record RefutesBy (gains : ℕ → ℕ) (e : Instance) (w : List Bool) (r : Weights) : Type 0 where
  pub rows : RowsSuit e w r
  pub budgets : counted gains e r ≤ budgets_taken e w r
  pub costs : CostsDiffer e w r

-- the weights refute all prices for the outcome; where the weight of Cover is not 0, all whose budgets exceed the limit
abbrev pub Refutes : Instance → List Bool → Weights → Type 0
Refutes e w r = RefutesBy (gain e w r) e w r

-- The same of stable prices alone. Weights that refute all prices refute the stable ones.
abbrev pub RefutesStable : Instance → List Bool → Weights → Type 0
RefutesStable e w r = RefutesBy (stable_gain e w r) e w r

-- what weights are to refute, by whether stable prices are asked about
abbrev pub RefutesAsked : Bool → Instance → List Bool → Weights → Type 0
RefutesAsked false e w r = Refutes e w r
RefutesAsked true e w r = RefutesStable e w r

-- What a refutation excludes: prices for the outcome in the plain form or the stable one, whatever their denominator,
-- their budget and their payments are.
abbrev pub Supports : Instance → List Bool → Prices → Type 0
Supports e w p = (1 ≤ p.denominator) × C1 e p × C2 e p × C3 e w p × C4 e w p × (C5 e w p ⊎ S5 e w p)

abbrev pub NoPricesSupport : Instance → List Bool → Type 0
NoPricesSupport e w = (p : Prices) → Supports e w p → ⊥

abbrev pub NoPricesWithCoverSupport : Instance → List Bool → Type 0
NoPricesWithCoverSupport e w = (p : Prices) → Supports e w p → Cover e p → ⊥

-- What a refutation of stable prices excludes.
abbrev pub SupportsStable : Instance → List Bool → Prices → Type 0
SupportsStable e w p = (1 ≤ p.denominator) × C1 e p × C2 e p × C3 e w p × C4 e w p × S5 e w p

abbrev pub NoStablePricesSupport : Instance → List Bool → Type 0
NoStablePricesSupport e w = (p : Prices) → SupportsStable e w p → ⊥

abbrev pub NoStablePricesWithCoverSupport : Instance → List Bool → Type 0
NoStablePricesWithCoverSupport e w = (p : Prices) → SupportsStable e w p → Cover e p → ⊥

-- After a yes to prices, by whether Cover was asked for: weights refute it in no case but that Cover was not asked for,
-- and Cover has a weight.
abbrev pub NothingRefutes : Bool → Instance → List Bool → Type 0
NothingRefutes cover e w = (r : Weights) → Refutes e w r → (0 < r.cover) × IsFalse cover

-- the same after a yes to stable prices
abbrev pub NothingRefutesStable : Bool → Instance → List Bool → Type 0
NothingRefutesStable cover e w = (r : Weights) → RefutesStable e w r → (0 < r.cover) × IsFalse cover

-- What the costs come to as they are told: all that is taken to be at least so much, and all that is at most so much.

-- the projects of a list whose weight has this role
abbrev pub has_role : (Role → Bool) → Weights → ℕ → Bool
has_role is r c = option_map_or (λ x. is x.role) (row_of r c) false

abbrev pub is_least : Role → Bool
is_least Least = true
is_least Most = false
is_least Left = false

abbrev pub is_most : Role → Bool
is_most Least = false
is_most Most = true
is_most Left = false

-- what projects cost, each by its weight
abbrev pub weighted_cost : Instance → Weights → List ℕ → ℕ
weighted_cost e r cs = sum_by (λ c. weight r c * cost_of e c) cs

-- what the funded projects with a row `least` cost, each by its weight, and those with a row `most`
abbrev pub least_cost : Instance → List Bool → Weights → ℕ
least_cost e w r = weighted_cost e r (filter (has_role is_least r) (funded e w))

abbrev pub most_cost : Instance → List Bool → Weights → ℕ
most_cost e w r = weighted_cost e r (filter (has_role is_most r) (funded e w))

-- what is paid at least, with the limit by the weight of Cover, and what is paid at most and left at most: their difference
-- is that of P and Q
abbrev pub at_least : Instance → List Bool → Weights → ℕ
at_least e w r = least_cost e w r + r.cover * e.limit

abbrev pub at_most : Instance → List Bool → Weights → ℕ
at_most e w r = most_cost e w r + left_cost e w r
