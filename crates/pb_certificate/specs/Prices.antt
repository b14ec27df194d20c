-- Price systems, after Peters, Pierczyński and Skowron (2021): a budget that is the same for all voters, and what each
-- voter pays for each project. The form of price certificates is this project's own.
pub mod Text
pub mod RowFaults
pub mod Kind
pub mod Rows
pub mod Canon
use Rattle.std.specs.Prelude.{◌≡◌, ◌<◌, ◌≤◌, ◌-◌, ◌^◌, ◌==◌, if◌then◌else◌, ℕ, List, [], ◌∷◌, length, map, sum_by, slice_index_or, All}
use Rattle.pb_election.specs.Instance.{Instance, IsSet, projects, voters}

-- Amounts of a price system are fractions over one denominator D. The payments are kept by voter: of each
-- voter the projects that it pays for, rising, each with the numerator, which is not 0.
pub record Prices : Type 0 where
  pub projects : ℕ  -- how many projects can be paid for
  pub denominator : ℕ
  pub budget : ℕ  -- the numerator of the budget of each voter
  pub payments : List (List (ℕ × ℕ))

-- the payments that a voter makes
abbrev pub payments_of : Prices → ℕ → List (ℕ × ℕ)
payments_of p i = slice_index_or p.payments (i - 1) []

-- the numerator that a list of payments has for a project, and 0 where it has none
abbrev pub numerator_in : List (ℕ × ℕ) → ℕ → ℕ
numerator_in [] j = 0
numerator_in (q ∷ qs) j = if q.0 == j then q.1 else numerator_in qs j

-- the numerator that voter i pays for project j
abbrev pub payment : Prices → ℕ → ℕ → ℕ
payment p i j = numerator_in (payments_of p i) j

-- the limits of price certificates: the greatest denominator, the greatest numerator of a budget or a payment, and how
-- many rows of payments there are at most, and so how many payments that are not 0
abbrev pub most_denominator : ℕ
most_denominator = 10 ^ 9

abbrev pub most_numerator : ℕ
most_numerator = 10 ^ 21

abbrev pub most_rows : ℕ
most_rows = 10000000

-- what one voter pays is a map from projects to numerators above 0
pub record IsPaymentMap (most_project : ℕ) (qs : List (ℕ × ℕ)) : Type 0 where
  pub projects_rise : IsSet 1 most_project (map (λ q. q.0) qs)
  pub none_zero : All (λ q. 0 < q.1) qs
  pub none_large : All (λ q. q.1 ≤ most_numerator) qs

-- what holds of each price system, whatever the election
pub record IsPriceSystem (p : Prices) : Type 0 where
  pub denominator : (1 ≤ p.denominator) × (p.denominator ≤ most_denominator)
  pub budget : p.budget ≤ most_numerator
  pub maps : All (IsPaymentMap p.projects) p.payments
  pub few : sum_by length p.payments ≤ most_rows

-- the prices speak of as many voters and projects as the election has
pub record PricesFit (p : Prices) (e : Instance) : Type 0 where
  pub each_voter : length p.payments ≡ voters e
  pub each_project : p.projects ≡ projects e

-- the prices are those of a price system for this election
pub record ArePrices (e : Instance) (p : Prices) : Type 0 where
  pub system : IsPriceSystem p
  pub fits : PricesFit p e
