use Rattle.std.proofs.Common.{◌∙◌, List, ap}
use Rattle.pb_certificate.specs.Prices.Canon.{lines}
use Rattle.pb_cohesion.specs.declared.GroupFigures.{GroupFigures}
use Rattle.pb_election.specs.Instance.{Instance}
use Rattle.pb_explain.specs.GroupMargins.{group_margin_table}
use Rattle.pb_audit.proofs.MarginAnswers.{group_margins_told}
use Rattle.pb_audit.proofs.groups.margins_of_groups.Goals as goal

pub returns : goal.returns
returns c =
    let k = c.args.groups.now.measure in
    let e = c.args.decided.now.election in
    let w = c.args.decided.now.outcome.marks in
    let xs = c.args.groups.now.figures.items in
    let text = c.in_ok-group_margins_text.ensures
    ∙ ap (λ (i : Instance). lines (group_margin_table k i c.deref.result.now)) c.election.ensures
    ∙ ap (λ (ys : List GroupFigures). lines (group_margin_table k e ys)) c.deref.ensures.value in
    group_margins_told k e w xs _ _ text c.in_ok-group_margins_object.ensures
