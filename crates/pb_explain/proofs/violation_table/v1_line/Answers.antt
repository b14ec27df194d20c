use Rattle.std.proofs.Common.{◌∙◌, append_assoc}
use Rattle.std.proofs.lemmas.Result.{IfOk-weaker}
use Rattle.pb_explain.specs.ViolationTable.{members}
use Rattle.pb_explain.proofs.violation_table.v1_line.Goals as goal

pub returns : goal.returns
unfolding members
returns c =
    IfOk-weaker c.format.result _ _ (λ line e. e ∙ simp (c.voters-voters.ensures.value, append_assoc)) c.format.ensures.ok
