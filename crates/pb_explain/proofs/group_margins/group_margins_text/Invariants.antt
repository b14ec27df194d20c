use Rattle.std.proofs.Common.{◌≡◌, ◌++◌, map, take}
use Rattle.pb_records.specs.Inside.RecordWriter.{IsOpen, held}
use Rattle.pb_certificate.specs.Prices.Canon.{lines}
use Rattle.pb_election.specs.Instance.{voters}
use Rattle.pb_explain.specs.GroupMargins.{denominator, group_margin_head, group_row}
use Rattle.pb_explain.proofs.group_margins.group_margins_text.Given as goal

abbrev pub invariant-loop-group : goal.invariant-loop-group
invariant-loop-group l =
    record {
      open_still : IsOpen l.writer;
      text : held l.writer
          ≡ lines (group_margin_head l.fn.measure (denominator (voters l.election))
          ++ map (group_row l.election) (take l.group-index l.figures));
    }
