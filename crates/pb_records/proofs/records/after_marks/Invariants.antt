use Rattle.std.proofs.Common.{◌≡◌, length}
use Rattle.pb_records.specs.Records.{drop_marks}
use Rattle.pb_records.proofs.records.after_marks.Given as goal

abbrev pub invariant-loop-rest : goal.invariant-loop-rest
invariant-loop-rest l = drop_marks l.text ≡ drop_marks l.bytes

abbrev pub decreases-loop-rest : goal.decreases-loop-rest
decreases-loop-rest l = length l.text
