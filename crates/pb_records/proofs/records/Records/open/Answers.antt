use Rattle.std.proofs.Common.{arith}
use Rattle.pb_records.proofs.ByteOrderMarks.{count-records, strip_bom-drop_marks}
use Rattle.pb_records.proofs.records.Records.open.Goals as goal

pub rest_of-requires : goal.rest_of-requires
rest_of-requires c = rw c.after_marks.ensures (strip_bom-drop_marks c.args.bytes.now)

pub returns-clause-few : goal.returns-clause-few
returns-clause-few c = grind (arith, count-records)
