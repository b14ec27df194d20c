-- The rows of a price certificate, one after another: what a row states, or the fault that it has by itself, and the fault
-- that it has behind others.
use Rattle.std.specs.Prelude.{◌||◌, not, ◌==◌, nat_le, nat_lt, if◌then◌else◌, ℕ, List, [], ◌∷◌, length, map, Option, Some, None, Result, Err, is_none}
use Rattle.std.specs.List.{list_any}
use Rattle.std.specs.Option.{ok_or}
use Rattle.pb_election.specs.Instance.{Instance}
use Rattle.pb_records.specs.Records.{Rec}
use Rattle.pb_records.specs.Cells.{cell}
use Rattle.pb_certificate.specs.Fields.{fields, project_in, voter_in, whole_in}
use Rattle.pb_certificate.specs.Prices.Text.{Payment, numerator_of, payment_of, same_pair}
use Rattle.pb_certificate.specs.declared.prices.row.PriceRow.{PriceRow}
use Rattle.pb_certificate.specs.declared.refusal.CertFault.{CertFault}
use Rattle.pb_certificate.specs.declared.refusal.CertFault.TheVariants as fault
use Rattle.pb_certificate.specs.Prices.{most_rows}

abbrev pub as_payment : PriceRow → Payment
as_payment q = record { voter = q.voter; project = q.project; numerator = q.payment }

-- the fault with the lowest number that a row has by itself, whatever rows stand before it
abbrev pub row_fault : Instance → Rec → Option CertFault
row_fault e r =
    if not (length (fields r) == 3) then Some fault.BadRow
    else if is_none (whole_in (cell 0 r)) || is_none (numerator_of (cell 2 r)) then Some fault.BadNumber
    else if is_none (voter_in e (cell 0 r)) then Some fault.UnknownVoter
    else if is_none (project_in e (cell 1 r)) then Some fault.UnknownProject
    else None

-- what a row states, unless it has such a fault; one without a fault states a payment
abbrev pub stated_unless : Option CertFault → Option Payment → Result Payment CertFault
stated_unless (Some f) q = Err f
stated_unless None q = ok_or q fault.BadRow

abbrev pub price_row : Instance → Rec → Result Payment CertFault
price_row e r = stated_unless (row_fault e r) (payment_of e r)

-- the last of some numbers, or else the number before them
abbrev pub last_number : ℕ → List ℕ → ℕ
last_number n [] = n
last_number n (x ∷ xs) = last_number x xs

-- the voter of the last of some payments, and 0 where there is none
abbrev pub last_voter : List Payment → ℕ
last_voter qs = last_number 0 (map (λ q. q.voter) qs)

-- the fault with the lowest number that a payment has after some others
abbrev pub payment_fault : List Payment → Payment → Option CertFault
payment_fault qs q =
    if nat_lt q.voter (last_voter qs) then Some fault.OutOfOrder
    else if list_any (same_pair q) qs then Some fault.Repeated
    else if nat_le most_rows (length qs) then Some fault.TooMany
    else None
