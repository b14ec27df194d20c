use Rattle.std.proofs.Common.{◌≡◌, ◌≤◌, take, length}
use Rattle.std.specs.Str.{IsCharBoundary}
use Rattle.pb_money.specs.Digits.{drop_back}
use Rattle.pb_records.specs.Cells.{is_space}
use Rattle.pb_records.proofs.cells.clean_back.Given as goal

abbrev pub invariant-loop-end : goal.invariant-loop-end
invariant-loop-end l =
    (drop_back is_space (take l.end l.text) ≡ drop_back is_space l.text) × IsCharBoundary l.text l.end
    × (l.end ≤ length l.text)

abbrev pub decreases-loop-end : goal.decreases-loop-end
decreases-loop-end l = l.end
