use Rattle.std.proofs.Common.{◌≡◌, ◌≤◌, ◌-◌, ◌++◌}
use Rattle.std.specs.Prelude.{flat_map}
use Rattle.std.specs.List.{range_with_len}
use Rattle.pb_election.specs.Instance.{voters}
use Rattle.pb_records.specs.Inside.RecordWriter.{IsOpen, held}
use Rattle.pb_certificate.specs.Prices.Canon.{lines}
use Rattle.pb_certificate.proofs.OnPrices.Canon.Written.{voter_rows}
use Rattle.pb_certificate.proofs.prices.canonical.add_rows.Given as goal

abbrev pub invariant-loop-voter : goal.invariant-loop-voter
invariant-loop-voter l =
    record {
      open_still : IsOpen l.writer;
      within : l.voter - 1 ≤ voters l.election;
      text : held l.writer ≡ held l.fn.writer
          ++ lines (flat_map (voter_rows l.election l.prices) (range_with_len 1 (l.voter - 1)));
    }
