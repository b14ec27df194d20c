use Rattle.std.proofs.Common.{arith}
use Rattle.pb_records.specs.Inside.RecordWriter.{held}
use Rattle.pb_explain.proofs.MarginTable.{head_written}
use Rattle.pb_explain.proofs.margin_table.add_head.Goals as goal

pub returns-clause-text : goal.returns-clause-text
returns-clause-text c =
    head_written c.args.grains_per_unit (held c.args.writer.now) (held c.add_pair.new.writer)
    (held c.add_pair-2.new.writer) (held c.add_record.new.writer)
    (omega (arith, c.ranges.grains_per_unit.fits)) c.in_ok-add_pair.ensures.text
    (rw c.format.ensures.text at c.in_ok-add_pair-2.ensures.text) c.in_ok-add_record.ensures.text
