use Rattle.std.proofs.Common.{◌∙◌, append_assoc}
use Rattle.std.proofs.lemmas.Result.{IfOk-weaker}
use Rattle.pb_explain.specs.RefutationTable.{budgets_told, stable_budgets_told}
use Rattle.pb_explain.proofs.refutation_table.u2_line.Goals as goal

pub returns-in_default : goal.returns-in_default
unfolding budgets_told
returns-in_default c =
    IfOk-weaker c.format.result _ _ (λ line e. e ∙ simp (c.in_default.is, append_assoc)) c.format.ensures.ok

pub returns : goal.returns
unfolding stable_budgets_told
returns c =
    IfOk-weaker c.format-2.result _ _ (λ line e. e ∙ simp (c.in-Some.is, append_assoc)) c.format-2.ensures.ok
