use Rattle.std.proofs.Common.{◌∙◌, append_assoc}
use Rattle.std.proofs.lemmas.Result.{IfOk-weaker}
use Rattle.pb_explain.specs.ViolationTable.{enough, less}
use Rattle.pb_explain.proofs.violation_table.v4_line.Goals as goal

pub returns-in_default : goal.returns-in_default
unfolding less
returns-in_default c =
    IfOk-weaker c.format.result _ _ (λ line e. e ∙ simp (c.measure_words-by.ensures, c.in_default.is, append_assoc)) c.format.ensures.ok

pub returns : goal.returns
unfolding enough
returns c =
    IfOk-weaker c.format-2.result _ _ (λ line e. e ∙ simp (c.measure_words-by.ensures, c.in-Some.is, c.from.ensures) (simp (append_assoc))) c.format-2.ensures.ok
