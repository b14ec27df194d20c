-- What the reader's own parts of the rows of a price certificate stand for, and as which place `Rows` is seen. What a
-- file states is said without this module.
use Rattle.std.specs.Prelude.{◌≡◌, ◌⊎◌, List, length, Option, Some, None, Result, Ok, Err}
use Rattle.pb_election.specs.Instance.{projects}
use Rattle.pb_records.specs.Records.{Rec}
use Rattle.pb_records.specs.Inside.Headed.{Taken}
use Rattle.pb_certificate.specs.Prices.Kind.{price_kind}
use Rattle.pb_certificate.specs.Prices.Kind.Awaited.{Row}
use Rattle.pb_certificate.specs.Prices.Text.{Payment}
use Rattle.pb_certificate.specs.Faults.{certificate_records, no_memory, price_form}
use Rattle.pb_certificate.specs.Inside.Prices.Places.{StandsBehind}
use Rattle.pb_certificate.specs.Inside.Prices.PriorRows.{Remembers}
use Rattle.pb_certificate.specs.Prices.Rows.{GivesNone, GivesRow, RefusesNext, Rows}
use Rattle.pb_certificate.specs.declared.prices.row.PriceRow.{PriceRow}
use Rattle.pb_certificate.specs.declared.prices.row_reader.RowReader.{RowReader}
use Rattle.pb_certificate.specs.declared.refusal.CertRefusal.{CertRefusal}

-- where a reader stands
abbrev pub place_of : RowReader → Rows
place_of r =
    record {
      election = r.election.now;
      records = certificate_records r.bytes.now;
      denominator = r.denominator;
      budget = r.budget;
      record_number = r.cursor.record_number;
    }

-- the head and some rows lie behind, no fault stands there, and the reader remembers what the rows state
pub record IsReading (r : RowReader) : Type 0 where
  pub before : List Rec
  pub payments : List Payment
  pub taken : Taken (price_kind r.election.now) before (record { head = Row r.denominator r.budget; rows = payments })
  pub stands : StandsBehind (price_form r.election.now) (certificate_records r.bytes.now) r.cursor before
  pub remembers : Remembers r.prior payments
  pub each_project : length r.prior.last_payers.items ≡ projects r.election.now

-- what going over one more row gives
abbrev pub Advances : RowReader → RowReader → Result (Option PriceRow) CertRefusal → Type 0
Advances old new (Ok (Some q)) = GivesRow (place_of old) (place_of new) q × IsReading new
Advances old new (Ok None) = GivesNone (place_of old) (place_of new) × IsReading new
Advances old new (Err r) = (r ≡ no_memory) ⊎ RefusesNext (place_of old) r
