use Rattle.std.proofs.Common.{◌≤◌, ◌^◌, ◌+◌, length}
use Rattle.pb_records.proofs.CursorSteps.{Skips}
use Rattle.pb_records.proofs.cursor.Cursor.advance.Given as goal

abbrev pub invariant-loop-next : goal.invariant-loop-next
invariant-loop-next l = Skips l.fn.self l.self-inside.record_number l.self-inside.records
    × (l.self-inside.record_number + length l.self-inside.records ≤ 2 ^ 63)

abbrev pub decreases-loop-next : goal.decreases-loop-next
decreases-loop-next l = length l.self-inside.records
