-- Price certificates, record by record: four head records, and rows each of which states a payment.
use Rattle.std.specs.Prelude.{if◌then◌else◌, Bool, true, false, ℕ, Result, Ok, Err, codes}
use Rattle.std.specs.Result.{result_map_both}
use Rattle.pb_election.specs.Instance.{Instance}
use Rattle.pb_records.specs.Headed.{Kind}
use Rattle.pb_records.specs.Records.{Rec}
use Rattle.pb_certificate.specs.Fields.{fields, head_number, same_fields}
use Rattle.pb_certificate.specs.Prices.{most_denominator, most_numerator}
use Rattle.pb_certificate.specs.Prices.RowFaults.{payment_fault, price_row}
use Rattle.pb_certificate.specs.Prices.Text.{Payment, price_columns, price_name}
use Rattle.pb_certificate.specs.declared.refusal.CertFault.{CertFault}
use Rattle.pb_certificate.specs.declared.refusal.CertFault.TheVariants as fault

-- what the next record is to be, with the numbers that the head has stated so far: the denominator, and the budget
pub data Awaited : Type 0 where
  Name : Awaited
  Denominator : Awaited
  Budget : ℕ → Awaited
  Columns : ℕ → ℕ → Awaited
  Row : ℕ → ℕ → Awaited

abbrev pub awaits_row : Awaited → Bool
awaits_row Name = false
awaits_row Denominator = false
awaits_row (Budget d) = false
awaits_row (Columns d b) = false
awaits_row (Row d b) = true

-- what is awaited after one more record of the head
abbrev pub price_head : Awaited → Rec → Result Awaited CertFault
price_head Name r = if same_fields (fields r) price_name then Ok Denominator else Err fault.BadHead
price_head Denominator r =
    result_map_both (λ d. Budget d) (λ f. f) (head_number (codes "denominator") 1 most_denominator r)
price_head (Budget d) r =
    result_map_both (λ b. Columns d b) (λ f. f) (head_number (codes "voter_budget") 0 most_numerator r)
price_head (Columns d b) r = if same_fields (fields r) price_columns then Ok (Row d b) else Err fault.BadHead
price_head (Row d b) r = Err fault.BadHead

abbrev pub price_kind : Instance → Kind CertFault Awaited Payment
price_kind e =
    record {
      start = Name;
      is_whole = awaits_row;
      head = price_head;
      row = price_row e;
      admit = payment_fault;
      not_text = fault.NotUtf8;
      cut = fault.BadHead;
    }
