use Rattle.std.proofs.Common.{◌∙◌, append_assoc}
use Rattle.std.proofs.lemmas.Result.{IfOk-weaker}
use Rattle.pb_reply.proofs.verdict_lines.groups_failed_line.Goals as goal

pub returns : goal.returns
returns c = IfOk-weaker c.format.result _ _ (λ line e. e ∙ simp (append_assoc)) c.format.ensures.ok
