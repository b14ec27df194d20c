-- The text of a price certificate.
use Rattle.std.specs.Prelude.{◌≡◌, ◌≤◌, ◌==◌, ◌&&◌, nat_lt, if◌then◌else◌, Bool, IsTrue, ℕ, List, [], ◌∷◌, length, map, filter_map, Option, Some, None, codes}
use Rattle.std.specs.List.{AllByRecursion, IsDistinct}
use Rattle.std.specs.List.Sorted.{IsNonDecreasing}
use Rattle.pb_election.specs.Instance.{Instance, all_projects, all_voters, projects}
use Rattle.pb_records.specs.Records.{Field, Rec}
use Rattle.pb_records.specs.Cells.{is_text, nonblank}
use Rattle.pb_certificate.specs.Prices.{Prices, most_denominator, most_numerator, most_rows}
use Rattle.pb_certificate.specs.Fields.{StatesNumber, fields, project_in, voter_in, whole_within}

-- a payment that a row states
pub record Payment : Type 0 where
  pub voter : ℕ
  pub project : ℕ
  pub numerator : ℕ

-- the numerator that a field states
abbrev pub numerator_of : Field → Option ℕ
numerator_of f = whole_within 0 most_numerator f

-- the payment of a voter, a project and a numerator, where there is each of them
abbrev pub payment_from : Option ℕ → Option ℕ → Option ℕ → Option Payment
payment_from (Some i) (Some j) (Some n) = Some (record { voter = i; project = j; numerator = n })
payment_from (Some i) (Some j) None = None
payment_from (Some i) None x = None
payment_from None c x = None

-- the payment that three fields state: a voter's number, a project's id and a numerator. More or fewer fields state
-- none
abbrev pub payment_by : Instance → List Field → Option Payment
payment_by e [] = None
payment_by e (v ∷ []) = None
payment_by e (v ∷ c ∷ []) = None
payment_by e (v ∷ c ∷ x ∷ []) = payment_from (voter_in e v) (project_in e c) (numerator_of x)
payment_by e (v ∷ c ∷ x ∷ y ∷ ys) = None

-- the payment that a row states
abbrev pub payment_of : Instance → Rec → Option Payment
payment_of e r = payment_by e (fields r)

-- whether two payments are of one voter for one project
abbrev pub same_pair : Payment → Payment → Bool
same_pair a b = (a.voter == b.voter) && (a.project == b.project)

-- what the payments state for a voter and a project: 0 where they say nothing
abbrev pub stated : List Payment → ℕ → ℕ → ℕ
stated [] i j = 0
stated (q ∷ qs) i j = if (q.voter == i) && (q.project == j) then q.numerator else stated qs i j

-- a project with its numerator, where that is not 0
abbrev pub above_0 : ℕ → ℕ → Option (ℕ × ℕ)
above_0 j x = if nat_lt 0 x then Some (j, x) else None

-- of a voter, each project that it pays for, rising, with the numerator
abbrev pub payments_stated : Instance → List Payment → ℕ → List (ℕ × ℕ)
payments_stated e qs i = filter_map (λ j. above_0 j (stated qs i j)) (all_projects e)

abbrev pub price_name : List Field
price_name = codes "pb-prices" ∷ codes "1" ∷ []

abbrev pub price_columns : List Field
price_columns = codes "voter" ∷ codes "project" ∷ codes "payment" ∷ []

-- these are the four head records, with these numbers
pub record IsPriceHead (denominator budget : ℕ) (heads : List Rec) : Type 0 where
  pub name : Rec
  pub denominator_of : Rec
  pub budget_of : Rec
  pub columns : Rec
  pub cut : heads ≡ name ∷ denominator_of ∷ budget_of ∷ columns ∷ []
  pub is_name : fields name ≡ price_name
  pub is_denominator : StatesNumber (codes "denominator") 1 most_denominator denominator_of denominator
  pub is_budget : StatesNumber (codes "voter_budget") 0 most_numerator budget_of budget
  pub are_columns : fields columns ≡ price_columns

-- the records are the text of these prices
pub record IsPriceText (recs : List Rec) (e : Instance) (p : Prices) : Type 0 where
  pub head : Rec
  pub denominator : Rec
  pub budget : Rec
  pub columns : Rec
  pub rows : List Rec
  pub payments : List Payment
  pub cut : nonblank recs ≡ head ∷ denominator ∷ budget ∷ columns ∷ rows
  pub text : AllByRecursion (λ r. IsTrue (is_text r)) (nonblank recs)
  pub is_head : fields head ≡ price_name
  pub is_denominator : StatesNumber (codes "denominator") 1 most_denominator denominator p.denominator
  pub is_budget : StatesNumber (codes "voter_budget") 0 most_numerator budget p.budget
  pub is_columns : fields columns ≡ price_columns
  pub each_row : map (payment_of e) rows ≡ map Some payments
  pub in_order : IsNonDecreasing (map (λ q. q.voter) payments)
  pub once : IsDistinct same_pair payments
  pub few : length rows ≤ most_rows
  pub each_project : p.projects ≡ projects e
  pub same_payments : p.payments ≡ map (payments_stated e payments) (all_voters e)
