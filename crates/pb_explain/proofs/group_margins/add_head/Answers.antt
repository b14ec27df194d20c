use Rattle.std.proofs.Common.{arith}
use Rattle.pb_records.specs.Inside.RecordWriter.{held}
use Rattle.pb_explain.proofs.GroupMargins.{group_head_written}
use Rattle.pb_explain.proofs.group_margins.add_head.Goals as goal

pub returns-clause-text : goal.returns-clause-text
returns-clause-text c =
    group_head_written c.args.measure c.args.denominator (held c.args.writer.now) (held c.add_pair.new.writer)
    (held c.add_pair-2.new.writer) (held c.add_pair-3.new.writer) (held c.add_record.new.writer)
    (omega (arith, c.ranges.denominator.fits)) c.in_ok-add_pair.ensures.text
    (rw c.measure_name.ensures at c.in_ok-add_pair-2.ensures.text)
    (rw c.format.ensures.text at c.in_ok-add_pair-3.ensures.text) c.in_ok-add_record.ensures.text
