-- What a price system costs, budgets and pays, in grains. A grain is 1 / (10^6 * D) of the currency, where D is the
-- denominator: in grains the amounts of an election and those of its prices are all whole numbers.
use Rattle.std.specs.Prelude.{ℕ, ℤ, pos, ◌-ℤ◌, List, [], ◌∷◌, sum_by, max}
use Rattle.pb_money.specs.Grains.{cost_grains, payment_grains}
use Rattle.pb_election.specs.Instance.{Instance, all_projects, all_voters, cost_of}
use Rattle.pb_certificate.specs.Prices.{Prices, payment}

-- what a project costs
abbrev pub cost : Instance → Prices → ℕ → ℕ
cost e p c = cost_grains (cost_of e c) p.denominator

-- the limit of what the funded projects may cost together
abbrev pub budget_limit : Instance → Prices → ℕ
budget_limit e p = cost_grains e.limit p.denominator

-- the budget of each voter
abbrev pub beta : Prices → ℕ
beta p = payment_grains p.budget

-- what voter i pays for project c
abbrev pub pays : Prices → ℕ → ℕ → ℕ
pays p i c = payment_grains (payment p i c)

-- what a voter pays over all projects
abbrev pub spent : Instance → Prices → ℕ → ℕ
spent e p i = sum_by (λ c. pays p i c) (all_projects e)

-- what all voters pay for a project
abbrev pub paid : Instance → Prices → ℕ → ℕ
paid e p c = sum_by (λ i. pays p i c) (all_voters e)

-- what a voter has left of its budget, which is negative where it spent more
abbrev pub left : Instance → Prices → ℕ → ℤ
left e p i = pos (beta p) -ℤ pos (spent e p i)

-- the largest value of f on a list, and 0 on the empty list
abbrev pub largest_by : (ℕ → ℕ) → List ℕ → ℕ
largest_by f [] = 0
largest_by f (x ∷ xs) = max (f x) (largest_by f xs)

-- the most that a voter pays for one project
abbrev pub top : Instance → Prices → ℕ → ℕ
top e p i = largest_by (λ c. pays p i c) (all_projects e)
