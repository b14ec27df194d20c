use Rattle.std.proofs.Common.{◌≡◌, ◌-◌, length, drop}
use Rattle.csv.specs.Records.{fields_of}
use Rattle.pb_records.specs.Cells.{is_blank}
use Rattle.pb_records.proofs.cells.is_blank_from.Given as goal

abbrev pub invariant-loop-field : goal.invariant-loop-field
invariant-loop-field l = is_blank (drop l.i (fields_of l.row)) ≡ is_blank (drop l.start (fields_of l.row))

abbrev pub decreases-loop-field : goal.decreases-loop-field
decreases-loop-field l = length (fields_of l.row) - l.i
