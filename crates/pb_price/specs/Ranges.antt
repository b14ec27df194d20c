-- How large the sums are that the conditions on a price system compare.
use Rattle.std.specs.Prelude.{◌+◌, ◌*◌, ◌^◌, ◌≤ℤ◌, ℕ, ℤ, pos, neg_ℤ, Bool, List, length, sum_by}
use Rattle.pb_election.specs.Instance.{Instance, IsProject, IsVoter, cost_of}
use Rattle.pb_certificate.specs.Prices.{Prices}
use Rattle.pb_cohesion.specs.Amounts.{beta, budget_limit, cost, left, paid, pays, spent, top}
use Rattle.pb_cohesion.specs.Conditions.{most_of, sum_ℤ}
use Rattle.pb_cohesion.specs.Groups.{AreProjects, IsGroup}
use Rattle.pb_cohesion.specs.Outcome.{total}

-- a whole number from -10^34 to 10^34
abbrev pub IsInRange : ℤ → Type 0
IsInRange x = (neg_ℤ (pos (10 ^ 34)) ≤ℤ x) × (x ≤ℤ pos (10 ^ 34))

-- the same of a number that isn't negative
abbrev pub IsInRangeℕ : ℕ → Type 0
IsInRangeℕ n = IsInRange (pos n)

-- Each amount that the conditions name is in the range, and so is each sum of such amounts over any group of voters or
-- any set of projects: over all of them, over the supporters of a project, over the funded projects, and over any part
-- of those.
pub record AllSumsFit (e : Instance) (w : List Bool) (p : Prices) : Type 0 where
  -- Feasible and Exhaustive, which are in millionths: what the outcome costs, and with one project more
  pub outcome : IsInRangeℕ (total e w)
  pub one_more : (c : ℕ) → IsProject e c → IsInRangeℕ (total e w + cost_of e c)
  -- Cover: the limit, and the budgets of a group
  pub limit : IsInRangeℕ (budget_limit e p)
  pub budgets : (s : List ℕ) → IsGroup e s → IsInRangeℕ (length s * beta p)
  -- C2 to C4: what a voter pays, what is paid for a project and what it costs
  pub spent_by_voter : (i : ℕ) → IsVoter e i → IsInRangeℕ (spent e p i)
  pub paid_for_project : (c : ℕ) → IsProject e c → IsInRangeℕ (paid e p c)
  pub cost_of_project : (c : ℕ) → IsProject e c → IsInRangeℕ (cost e p c)
  -- what projects cost together, and what a group pays for them
  pub costs : (t : List ℕ) → AreProjects e t → IsInRangeℕ (sum_by (cost e p) t)
  pub payments : (s t : List ℕ) → IsGroup e s → AreProjects e t
      → IsInRangeℕ (sum_by (λ i. sum_by (λ c. pays p i c) t) s)
  -- C5: what a voter has left, and what a group has left
  pub left_of_voter : (i : ℕ) → IsVoter e i → IsInRange (left e p i)
  pub left_of_group : (s : List ℕ) → IsGroup e s → IsInRange (sum_ℤ (left e p) s)
  -- S5: the most that a voter pays for one project and can offer, and what a group can offer
  pub largest_of_voter : (i : ℕ) → IsVoter e i → IsInRangeℕ (top e p i)
  pub most_of_voter : (i : ℕ) → IsVoter e i → IsInRange (most_of e p i)
  pub most_of_group : (s : List ℕ) → IsGroup e s → IsInRange (sum_ℤ (most_of e p) s)
