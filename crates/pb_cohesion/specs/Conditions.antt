-- When a price system supports an outcome: each condition, and its culprits in order. C1 to C5 are after Peters,
-- Pierczyński and Skowron (2021), and S5 is after the stable form that Peters, Pierczyński, Shah and Skowron (2021)
-- give for committees. The form of S5 for projects with costs, Feasible, Exhaustive and Cover are this project's own.
use Rattle.std.specs.Prelude.{◌≡◌, ◌<◌, ◌≤◌, ◌+◌, ◌*◌, ◌==◌, ◌&&◌, not, nat_lt, nat_le, int_lt, ℕ, ℤ, pos, ◌+ℤ◌, ◌≤ℤ◌, Bool, List, [], ◌∷◌, map, filter, flat_map}
use Rattle.std.specs.Int.{int_max}
use Rattle.pb_election.specs.Instance.{Approves, Instance, IsProject, IsVoter, all_projects, all_voters, approves, cost_of, supporters, voters}
use Rattle.pb_certificate.specs.Prices.{Prices, payment}
use Rattle.pb_cohesion.specs.Amounts.{beta, budget_limit, cost, left, paid, spent, top}
use Rattle.pb_cohesion.specs.Outcome.{IsFunded, IsUnfunded, funded, total, unfunded}

-- Throughout, e is an election, w an outcome as the marks of its funded projects, p a price system, i a voter and c a
-- project. Amounts are in grains, but those of Feasible and Exhaustive in millionths, and C1 asks only whether a
-- numerator is above 0.

-- a sum of integers, some of which may be negative
abbrev pub sum_ℤ : (ℕ → ℤ) → List ℕ → ℤ
sum_ℤ f [] = pos 0
sum_ℤ f (x ∷ xs) = f x +ℤ sum_ℤ f xs

-- the larger of what a voter has left and its largest payment; a voter can offer no more, and, where nothing is paid
-- for unfunded projects, as much
abbrev pub most_of : Instance → Prices → ℕ → ℤ
most_of e p i = int_max (pos (top e p i)) (left e p i)

-- the outcome costs at most the limit
abbrev pub Feasible : Instance → List Bool → Type 0
Feasible e w = total e w ≤ e.limit

-- no unfunded project can be added within the limit
abbrev pub Exhaustive : Instance → List Bool → Type 0
Exhaustive e w = (c : ℕ) → IsUnfunded e w c → e.limit < total e w + cost_of e c

-- the budgets of all voters together are more than the limit
abbrev pub Cover : Instance → Prices → Type 0
Cover e p = budget_limit e p < voters e * beta p

-- a voter pays only for projects that it approves
abbrev pub C1 : Instance → Prices → Type 0
C1 e p = (i c : ℕ) → IsVoter e i → IsProject e c → 0 < payment p i c → Approves e i c

-- no voter spends more than the budget
abbrev pub C2 : Instance → Prices → Type 0
C2 e p = (i : ℕ) → IsVoter e i → spent e p i ≤ beta p

-- each funded project is paid for exactly
abbrev pub C3 : Instance → List Bool → Prices → Type 0
C3 e w p = (c : ℕ) → IsFunded e w c → paid e p c ≡ cost e p c

-- nothing is paid for an unfunded project
abbrev pub C4 : Instance → List Bool → Prices → Type 0
C4 e w p = (c : ℕ) → IsUnfunded e w c → paid e p c ≡ 0

-- the supporters of an unfunded project have together at most its cost left
abbrev pub C5 : Instance → List Bool → Prices → Type 0
C5 e w p = (c : ℕ) → IsUnfunded e w c → sum_ℤ (left e p) (supporters e c) ≤ℤ pos (cost e p c)

-- for the supporters of an unfunded project these amounts come together to at most its cost
abbrev pub S5 : Instance → List Bool → Prices → Type 0
S5 e w p = (c : ℕ) → IsUnfunded e w c → sum_ℤ (most_of e p) (supporters e c) ≤ℤ pos (cost e p c)

-- The culprits: a voter and a project, a voter, or a project at which the condition is false, the lowest first.
abbrev pub culprits_of_Exhaustive : Instance → List Bool → List ℕ
culprits_of_Exhaustive e w = filter (λ c. nat_le (total e w + cost_of e c) e.limit) (unfunded e w)

abbrev pub culprits_of_C1 : Instance → Prices → List (ℕ × ℕ)
culprits_of_C1 e p =
    flat_map (λ i. map (λ c. (i, c)) (filter (λ c. nat_lt 0 (payment p i c) && not (approves e i c)) (all_projects e)))
    (all_voters e)

abbrev pub culprits_of_C2 : Instance → Prices → List ℕ
culprits_of_C2 e p = filter (λ i. nat_lt (beta p) (spent e p i)) (all_voters e)

abbrev pub culprits_of_C3 : Instance → List Bool → Prices → List ℕ
culprits_of_C3 e w p = filter (λ c. not (paid e p c == cost e p c)) (funded e w)

abbrev pub culprits_of_C4 : Instance → List Bool → Prices → List ℕ
culprits_of_C4 e w p = filter (λ c. not (paid e p c == 0)) (unfunded e w)

abbrev pub culprits_of_C5 : Instance → List Bool → Prices → List ℕ
culprits_of_C5 e w p = filter (λ c. int_lt (pos (cost e p c)) (sum_ℤ (left e p) (supporters e c))) (unfunded e w)

abbrev pub culprits_of_S5 : Instance → List Bool → Prices → List ℕ
culprits_of_S5 e w p = filter (λ c. int_lt (pos (cost e p c)) (sum_ℤ (most_of e p) (supporters e c))) (unfunded e w)
