-- What is remembered of the rows of a price certificate while their payments are gathered by voter. No claim on a file
-- rests on this.
use Rattle.std.specs.Prelude.{◌≡◌, ◌≤◌, ◌<◌, ◌+◌, ◌==◌, ◌&&◌, nat_lt, if◌then◌else◌, false, ℕ, List, filter_map, length, map, Some, None, sum_by}
use Rattle.std.specs.List.{AllByRecursion, IsDistinct, list_any, range_with_len}
use Rattle.pb_election.specs.Instance.{Instance, projects, voters}
use Rattle.pb_certificate.specs.Prices.{Prices, most_numerator, most_rows}
use Rattle.pb_certificate.specs.Prices.Rows.{Rows, given, prices_given}
use Rattle.pb_certificate.specs.Prices.Text.{IsPriceText, Payment, above_0, same_pair, stated}
use Rattle.pb_certificate.specs.declared.prices.gathering.Turn.{Turn}

-- the payments of a voter that are not 0, as they came
abbrev pub payments_made : List Payment → ℕ → List (ℕ × ℕ)
payments_made qs i =
    filter_map (λ q. if (q.voter == i) && nat_lt 0 q.numerator then Some (q.project, q.numerator) else None) qs

-- of a voter, each of so many projects that it pays for, rising, with the numerator
abbrev pub stated_by : ℕ → List Payment → ℕ → List (ℕ × ℕ)
stated_by projects qs i = filter_map (λ j. above_0 j (stated qs i j)) (range_with_len 1 projects)

-- the payments of so many voters, in order
abbrev pub stated_up_to : ℕ → List Payment → ℕ → List (List (ℕ × ℕ))
stated_up_to projects qs n = map (stated_by projects qs) (range_with_len 1 n)

-- what some rows say that the first so many voters pay, with the numbers of the head
abbrev pub prices_up_to : Rows → List Payment → ℕ → Prices
prices_up_to s qs n =
    record {
      projects = projects s.election;
      denominator = s.denominator;
      budget = s.budget;
      payments = stated_up_to (projects s.election) qs n;
    }

-- Here `has` says of an election and of prices that a sink has these so far.

-- of the payments that some rows state, the sink has those of the voters that are done, and the turn those of the
-- next
pub record Holds (has : Instance → Prices → Type 0) (s : Rows) (qs : List Payment) (t : Turn) : Type 0 where
  pub has_done : has s.election (prices_up_to s qs t.done)
  pub at_hand : t.payments.items ≡ payments_made qs (t.done + 1)
  pub none_later : AllByRecursion (λ q. q.voter ≤ t.done + 1) qs
  pub once : IsDistinct same_pair qs
  pub within : AllByRecursion (λ q. (1 ≤ q.project) × (q.project ≤ projects s.election)) qs
  pub small : AllByRecursion (λ q. q.numerator ≤ most_numerator) qs
  pub total : sum_by length (prices_up_to s qs t.done).payments + length t.payments.items ≤ length qs
  pub few : length qs ≤ most_rows

-- this holds where one more payment may come behind others: for a project that there is, of a pair that has none, and
-- within the limit
abbrev pub WhereNew : Rows → List Payment → Payment → Type 0 → Type 0
WhereNew s qs q holds = q.project ≤ projects s.election → list_any (same_pair q) qs ≡ false → length qs < most_rows
    → holds

-- they are those of some rows
abbrev pub HoldSome : (Instance → Prices → Type 0) → Turn → Type 0
HoldSome has t = (s : Rows) × (qs : List Payment) × Holds has s qs t

-- they are those of all rows of a price certificate
pub record HoldsAll (has : Instance → Prices → Type 0) (first : Rows) (t : Turn) : Type 0 where
  pub record_number : ℕ
  pub states : IsPriceText first.records first.election (prices_given (record first { record_number = record_number }))
  pub holds : Holds has first (given (record first { record_number = record_number })) t
  pub voters : t.done ≤ voters first.election

-- the sink has the prices that all rows of a price certificate state
pub record GathersAll (has : Instance → Prices → Type 0) (first : Rows) : Type 0 where
  pub prices : Prices
  pub states : IsPriceText first.records first.election prices
  pub has_all : has first.election prices
  pub head : (prices.projects ≡ projects first.election) × (prices.denominator ≡ first.denominator)
      × (prices.budget ≡ first.budget)
