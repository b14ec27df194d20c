use Rattle.std.proofs.Common.{◌≡◌, length, true}
use denote.Shadow.{shadow}
use denote.Text.{Utf8}
use Rattle.csv.specs.Records.{fields_of}
use Rattle.pb_records.specs.Cells.{is_text}
use Rattle.pb_records.proofs.PlainLines.{Filled}
use Rattle.pb_records.proofs.lines.fill.Given as goal

abbrev pub invariant-loop-left : goal.invariant-loop-left
invariant-loop-left l =
    Filled l.lines l.left (fields_of l.row)
    × (is_text (fields_of l.row) ≡ true) × shadow (Utf8 l.left)

abbrev pub decreases-loop-left : goal.decreases-loop-left
decreases-loop-left l = length l.left
