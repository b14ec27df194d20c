use Rattle.std.proofs.Common.{◌∙◌, append_assoc}
use Rattle.std.proofs.lemmas.Result.{IfOk-weaker}
use Rattle.pb_explain.specs.RefutationTable.{fitting_rows, misplaced}
use Rattle.pb_explain.proofs.refutation_table.u1_line.Goals as goal

pub returns-in_default : goal.returns-in_default
unfolding fitting_rows
returns-in_default c =
    IfOk-weaker c.format.result _ _ (λ line e. e ∙ simp (c.row_counts-least.ensures, c.in_default.is, append_assoc)) c.format.ensures.ok

pub returns : goal.returns
unfolding misplaced
returns c =
    IfOk-weaker c.format-2.result _ _ (λ line e. e ∙ simp (c.id-project.ensures, c.in-Some.is, c.from.ensures, append_assoc)) c.format-2.ensures.ok
