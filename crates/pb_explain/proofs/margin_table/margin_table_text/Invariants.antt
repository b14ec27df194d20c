use Rattle.std.proofs.Common.{◌≡◌, ◌++◌, Bool, List}
use Rattle.std.specs.List.{range_with_len}
use Rattle.pb_records.specs.Inside.RecordWriter.{IsOpen, held}
use Rattle.pb_certificate.specs.Prices.Canon.{lines}
use Rattle.pb_certificate.specs.Prices.{Prices}
use Rattle.pb_price.specs.Margins.{AreMargins}
use Rattle.pb_explain.specs.MarginTable.{margin_head, margin_rows}
use Rattle.pb_explain.proofs.margin_table.margin_table_text.Given as goal

abbrev pub invariant-loop-k : goal.invariant-loop-k
invariant-loop-k l =
    record {
      open_still : IsOpen l.writer;
      text : (w : List Bool) (p : Prices) → AreMargins l.election w p l.margins
          → held l.writer
          ≡ lines (margin_head l.margins.grains_per_unit ++ margin_rows l.election w p (range_with_len 1 l.k));
    }
