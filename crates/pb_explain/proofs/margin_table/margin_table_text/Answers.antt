use Rattle.std.proofs.Common.{◌<◌, arith}
use Rattle.pb_election.specs.Instance.{projects}
use Rattle.pb_records.specs.Inside.RecordWriter.{held}
use Rattle.pb_explain.proofs.MarginTable.{row_pushed}
use Rattle.pb_explain.proofs.margin_table.margin_table_text.Goals as goal

pub loop-k-preserved : goal.loop-k-preserved
loop-k-preserved c =
    let low : c.loop-k.k < projects c.args.election.now =
    rw c.projects-k-end.ensures.value at c.loop-k-test.true in
    let row = rw (c.id.ensures, c.index-of_project.ensures) at c.in_ok-add_row.ensures.text in
    record {
      open_still = c.in_ok-add_row.ensures.«open»;
      text = λ w p are.
          row_pushed c.args.election.now w p c.args.margins.now c.loop-k.k _ (held c.loop-k.writer)
          (held c.add_row.new.writer) are low (c.loop-k.invariant.text w p are) row;
    }

pub returns : goal.returns
returns c = grind arith
