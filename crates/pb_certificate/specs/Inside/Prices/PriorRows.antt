-- What the reader's own memory of the rows of a price certificate stands for. No claim on a file rests on this.
use Rattle.std.specs.Prelude.{◌≡◌, ◌≤◌, ◌⊎◌, ◌==◌, ⊤, ℕ, List, [], ◌∷◌, ◌++◌, filter, length, map, Some, None, Result, Ok, Err}
use Rattle.std.specs.List.{IsDistinct, range_with_len}
use Rattle.pb_election.specs.Instance.{Instance, IsProject, IsVoter}
use Rattle.pb_records.specs.Records.{Rec}
use Rattle.pb_certificate.specs.Prices.Text.{Payment, payment_of, same_pair}
use Rattle.pb_certificate.specs.Prices.RowFaults.{as_payment, last_number, last_voter, payment_fault, row_fault}
use Rattle.pb_certificate.specs.declared.prices.row.PriceRow.{PriceRow}
use Rattle.pb_certificate.specs.declared.prices.prior_rows.PriorRows.{PriorRows}
use Rattle.pb_certificate.specs.declared.refusal.CertFault.{CertFault}
use Rattle.pb_certificate.specs.Prices.{most_numerator, most_rows}

-- the last voter with a payment for a project, 0 among them, and 0 where there is none
abbrev pub last_payer : List Payment → ℕ → ℕ
last_payer qs j = last_number 0 (map (λ q. q.voter) (filter (λ q. q.project == j) qs))

-- numbers that do not fall, from one on
abbrev pub RiseFrom : ℕ → List ℕ → Type 0
RiseFrom low [] = ⊤
RiseFrom low (x ∷ xs) = (low ≤ x) × RiseFrom x xs

-- just these payments are remembered
pub record Remembers (t : PriorRows) (qs : List Payment) : Type 0 where
  pub rows : t.rows ≡ length qs
  pub few : length qs ≤ most_rows
  pub last_voter_is : t.last_voter ≡ last_voter qs
  pub last_payers_are : t.last_payers.items ≡ map (last_payer qs) (range_with_len 1 (length t.last_payers.items))
  pub in_order : RiseFrom 0 (map (λ q. q.voter) qs)
  pub once : IsDistinct same_pair qs

-- what one more payment, after those remembered, gives
abbrev pub Admits : PriorRows → List Payment → Payment → Result ⊤ CertFault → Type 0
Admits new qs q (Ok done) = (payment_fault qs q ≡ None) × Remembers new (qs ++ (q ∷ []))
Admits new qs q (Err f) = payment_fault qs q ≡ Some f

-- what taking the row that a record states, after some others, gives
pub record TakesPayment (e : Instance) (r : Rec) (old new : PriorRows) (q : PriceRow) : Type 0 where
  pub states : payment_of e r ≡ Some (as_payment q)
  pub no_fault : row_fault e r ≡ None
  pub voter : IsVoter e q.voter
  pub project : IsProject e q.project
  pub small : q.payment ≤ most_numerator
  pub admits : (qs : List Payment) → Remembers old qs
      → (payment_fault qs (as_payment q) ≡ None) × Remembers new (qs ++ (as_payment q ∷ []))

-- a row states a payment, which has this fault after the others
pub record RefusesPayment (e : Instance) (r : Rec) (old : PriorRows) (f : CertFault) : Type 0 where
  pub payment : Payment
  pub states : payment_of e r ≡ Some payment
  pub no_fault : row_fault e r ≡ None
  pub stops : (qs : List Payment) → Remembers old qs → payment_fault qs payment ≡ Some f

abbrev pub TakesRecord : Instance → Rec → PriorRows → PriorRows → Result PriceRow CertFault → Type 0
TakesRecord e r old new (Ok q) = TakesPayment e r old new q
TakesRecord e r old new (Err f) = (row_fault e r ≡ Some f) ⊎ RefusesPayment e r old f
