use Rattle.std.proofs.Common.{◌∙◌}
use Rattle.std.proofs.lemmas.Result.{IfOk-weaker}
use Rattle.pb_election.specs.Instance.{voters}
use Rattle.pb_explain.specs.GroupMargins.{denominator, group_margin_head}
use Rattle.pb_explain.proofs.GroupMargins.{group_row_pushed, group_rows_written}
use Rattle.pb_explain.proofs.group_margins.group_margins_text.Goals as goal

pub loop-group-preserved : goal.loop-group-preserved
loop-group-preserved c = record {
  open_still = c.in_ok-add_row.ensures.«open»;
  text =
      group_row_pushed c.args.election.now
      (group_margin_head c.args.measure (denominator (voters c.args.election.now))) c.args.figures.now c.loop-group.group-index _ _ _ c.loop-group-test.true
      c.loop-group.invariant.text c.in_ok-add_row.ensures.text;
}

pub returns : goal.returns
returns c =
    IfOk-weaker c.close.result _ _
    (λ text is. is
    ∙ group_rows_written c.args.election.now
    (group_margin_head c.args.measure (denominator (voters c.args.election.now))) c.args.figures.now c.loop-group.group-index _ c.loop-group-test.false
    c.loop-group.invariant.text)
    c.close.ensures
