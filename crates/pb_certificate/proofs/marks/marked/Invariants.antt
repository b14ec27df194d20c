use Rattle.std.proofs.Common.{◌≡◌}
use Rattle.std.specs.Prelude.{filter}
use Rattle.std.specs.List.{range_with_len}
use Rattle.pb_certificate.specs.Inside.Marks.{is_marked}
use Rattle.pb_certificate.proofs.marks.marked.Given as goal

abbrev pub invariant-loop-has_mark : goal.invariant-loop-has_mark
invariant-loop-has_mark l = (l.number ≡ l.has_mark-index)
    × (l.numbers.items ≡ filter (is_marked l.marks) (range_with_len 1 l.has_mark-index))
