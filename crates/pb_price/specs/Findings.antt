-- What each condition on a price system comes to: where it is false, and the sums that it compares.
use Rattle.std.specs.Prelude.{◌*◌, ◌^◌, ℕ, ℤ, pos, ◌-ℤ◌, int_le, Bool, List, [], Option, filter, length, option_map, slice_get}
use Rattle.std.specs.List.{list_all}
use Rattle.std.specs.Option.{option_or}
use Rattle.pb_money.specs.Grains.{cost_grains}
use Rattle.pb_election.specs.Instance.{Instance, all_voters, supporters, voters}
use Rattle.pb_certificate.specs.Prices.{Prices}
use Rattle.pb_cohesion.specs.Amounts.{beta, budget_limit, cost, left, paid, spent}
use Rattle.pb_cohesion.specs.Conditions.{culprits_of_C1, culprits_of_C2, culprits_of_C3, culprits_of_C4, culprits_of_C5, culprits_of_Exhaustive, culprits_of_S5, most_of, sum_ℤ}
use Rattle.pb_cohesion.specs.Outcome.{total, unfunded}
use Rattle.pb_price.specs.declared.Comparison.{Comparison}
use Rattle.pb_price.specs.declared.Finding.{Finding}
use Rattle.pb_price.specs.declared.Findings.{Findings}
use Rattle.pb_price.specs.declared.PaymentFinding.{PaymentFinding}

-- The sums that are compared at x, and by how much the amount is above the bound.

abbrev pub comparison : (ℕ → ℕ) → (ℕ → ℤ) → ℕ → Comparison
comparison bound amount x = record { at = x; bound = bound x; amount = amount x }

abbrev pub excess : Comparison → ℤ
excess m = m.amount -ℤ pos m.bound

-- the first of some numbers at which f is at least what it is at each of them, if there are any
abbrev pub closest : List ℕ → (ℕ → ℤ) → Option ℕ
closest xs f = slice_get (filter (λ x. list_all (λ y. int_le (f y) (f x)) xs) xs) 0

-- the first culprit, how many there are, and the sums at the first one, or where there is none those at the candidate
-- that comes closest, if there is a candidate
abbrev pub finding : List ℕ → List ℕ → (ℕ → ℕ) → (ℕ → ℤ) → Finding
finding culprits candidates bound amount = record {
  first = slice_get culprits 0;
  count = length culprits;
  shown =
      option_map (comparison bound amount)
      (option_or (slice_get culprits 0) (closest candidates (λ x. excess (comparison bound amount x))));
}

-- the same of payments, without sums
abbrev pub payment_finding : List (ℕ × ℕ) → PaymentFinding
payment_finding culprits = record { first = slice_get culprits 0; count = length culprits }

-- what the outcome costs, in grains
abbrev pub total_grains : Instance → List Bool → Prices → ℕ
total_grains e w p = cost_grains (total e w) p.denominator

-- the findings on the prices
abbrev pub findings : Instance → List Bool → Prices → Findings
findings e w p = record {
  grains_per_unit = 10 ^ 6 * p.denominator;
  -- what Feasible and Cover compare
  total = total_grains e w p;
  limit = budget_limit e p;
  voter_budget = beta p;
  budgets = voters e * beta p;
  -- Exhaustive: what remains of the limit, against the cost
  exhaustive =
      finding (culprits_of_Exhaustive e w) (unfunded e w)
      (cost e p) (λ c. pos (budget_limit e p) -ℤ pos (total_grains e w p));
  c1 = payment_finding (culprits_of_C1 e p);
  -- C2: what is spent, against the voter budget
  c2 = finding (culprits_of_C2 e p) (all_voters e) (λ i. beta p) (λ i. pos (spent e p i));
  -- C3 and C4: what is paid, against the cost, and against nothing; where they hold, nothing is shown
  c3 = finding (culprits_of_C3 e w p) [] (cost e p) (λ c. pos (paid e p c));
  c4 = finding (culprits_of_C4 e w p) [] (λ c. 0) (λ c. pos (paid e p c));
  -- C5 and S5: what the supporters have left, and what they can offer, against the cost
  c5 = finding (culprits_of_C5 e w p) (unfunded e w) (cost e p) (λ c. sum_ℤ (left e p) (supporters e c));
  s5 = finding (culprits_of_S5 e w p) (unfunded e w) (cost e p) (λ c. sum_ℤ (most_of e p) (supporters e c));
}
