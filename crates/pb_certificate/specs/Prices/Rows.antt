-- A price certificate that is gone over row by row.
use Rattle.std.specs.Prelude.{◌≡◌, ◌≤◌, ◌+◌, ◌-◌, ◌<◌, ◌⊎◌, false, ℕ, List, [], ◌∷◌, ◌++◌, length, map, filter_map, take, drop, Some, None}
use Rattle.pb_election.specs.Instance.{Instance, IsProject, IsVoter, all_voters, projects}
use Rattle.pb_records.specs.Records.{Rec}
use Rattle.pb_records.specs.Cells.{is_blank, nonblank}
use Rattle.pb_records.specs.FirstFault.{IsFirstFault, fault_at}
use Rattle.pb_certificate.specs.Prices.{Prices, most_numerator}
use Rattle.pb_certificate.specs.Prices.Text.{IsPriceHead, IsPriceText, Payment, payment_of, payments_stated}
use Rattle.pb_certificate.specs.Prices.RowFaults.{as_payment, payment_fault}
use Rattle.pb_certificate.specs.Faults.{no_memory, price_form}
use Rattle.pb_certificate.specs.declared.prices.row.PriceRow.{PriceRow}
use Rattle.pb_certificate.specs.declared.refusal.CertRefusal.{CertRefusal}

-- A place between the records of a price certificate: the election, all records of the file, the numbers of its head,
-- and how many records lie behind.
pub record Rows : Type 0 where
  pub election : Instance
  pub records : List Rec
  pub denominator : ℕ
  pub budget : ℕ
  pub record_number : ℕ

-- the payments that the rows behind state, in their order, those of 0 too: all records behind but the four of the head
abbrev pub given : Rows → List Payment
given s = filter_map (payment_of s.election) (drop 4 (nonblank (take s.record_number s.records)))

-- the prices that these rows state
abbrev pub prices_given : Rows → Prices
prices_given s =
    record {
      projects = projects s.election;
      denominator = s.denominator;
      budget = s.budget;
      payments = map (payments_stated s.election (given s)) (all_voters s.election);
    }

-- the place is behind the four head records, which state these numbers, and behind rows that each state a payment, and
-- no fault stands there or before
pub record IsBetweenRows (s : Rows) : Type 0 where
  pub heads : List Rec
  pub rows : List Rec
  pub behind : nonblank (take s.record_number s.records) ≡ heads ++ rows
  pub is_head : IsPriceHead s.denominator s.budget heads
  pub each_row : map (payment_of s.election) rows ≡ map Some (given s)
  pub within : s.record_number ≤ length s.records
  pub clear : (k : ℕ) → k ≤ s.record_number → fault_at (price_form s.election) s.records k ≡ None

-- behind some blank records, the next that is not blank is this one, at this place
pub record ComesNext (s : Rows) (record_number : ℕ) (r : Rec) : Type 0 where
  pub blanks : List Rec
  pub rest : List Rec
  pub are_blank : nonblank blanks ≡ []
  pub is_full : is_blank r ≡ false
  pub cut : drop s.record_number s.records ≡ blanks ++ (r ∷ rest)
  pub at : record_number ≡ s.record_number + length blanks + 1

-- the next record was given as a row
pub record GivesRow (old new : Rows) (q : PriceRow) : Type 0 where
  pub record_of : Rec
  pub next : ComesNext old new.record_number record_of
  pub states : payment_of old.election record_of ≡ Some (as_payment q)
  pub same : new ≡ record old { record_number = new.record_number }
  pub between : IsBetweenRows new
  pub given_then : given new ≡ given old ++ (as_payment q ∷ [])
  pub voter : IsVoter old.election q.voter
  pub project : IsProject old.election q.project
  pub small : q.payment ≤ most_numerator
  pub follows : payment_fault (given old) (as_payment q) ≡ None

-- no row was left to give, and all rows together are the text of the prices that they state
pub record GivesNone (old new : Rows) : Type 0 where
  pub no_row_left : nonblank (drop old.record_number old.records) ≡ []
  pub same : new ≡ record old { record_number = new.record_number }
  pub between : IsBetweenRows new
  pub given_then : given new ≡ given old
  pub states : IsPriceText old.records old.election (prices_given old)

-- the next record is where the file is refused
pub record RefusesNext (s : Rows) (r : CertRefusal) : Type 0 where
  pub record_of : Rec
  pub next : ComesNext s r.record_number record_of
  pub first : IsFirstFault (price_form s.election) s.records r.record_number r.fault

-- the file is refused before its first row
abbrev pub IsInHead : List Rec → CertRefusal → Type 0
IsInHead records r = (r ≡ no_memory) ⊎ (length (nonblank (take (r.record_number - 1) records)) < 4)
