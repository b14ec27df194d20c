use Rattle.std.proofs.Common.{◌≡◌, ◌-◌, drop, length}
use Rattle.std.specs.Str.{IsCharBoundary}
use Rattle.pb_money.specs.Digits.{drop_front}
use Rattle.pb_records.specs.Cells.{is_space}
use Rattle.pb_records.proofs.cells.clean_front.Given as goal

abbrev pub invariant-loop-start : goal.invariant-loop-start
invariant-loop-start l =
    (drop_front is_space (drop l.start l.text) ≡ drop_front is_space l.text) × IsCharBoundary l.text l.start

abbrev pub decreases-loop-start : goal.decreases-loop-start
decreases-loop-start l = length l.bytes - l.start
