use Rattle.std.proofs.Common.{◌≡◌, ◌++◌, take}
use Rattle.pb_records.specs.Inside.RecordWriter.{IsOpen, held}
use Rattle.pb_certificate.specs.Prices.Canon.{lines, rows_of_voter}
use Rattle.pb_certificate.proofs.prices.canonical.rows.add_payments.Given as goal

abbrev pub invariant-loop-payment : goal.invariant-loop-payment
invariant-loop-payment l =
    record {
      open_still : IsOpen l.writer;
      text : held l.writer ≡ held l.fn.writer
          ++ lines (rows_of_voter l.election l.voter (take l.payment-index l.payments));
    }
