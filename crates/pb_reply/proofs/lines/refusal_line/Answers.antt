use Rattle.std.proofs.Common.{◌∙◌, append_assoc}
use Rattle.std.proofs.lemmas.Result.{IfOk-weaker}
use Rattle.pb_reply.proofs.lines.refusal_line.Goals as goal

pub returns : goal.returns
returns c =
    IfOk-weaker c.format.result _ _ (λ line e. e ∙ simp (c.name.ensures, c.number-number.ensures, c.name-fault_name.ensures, c.record_number-record_number.ensures, append_assoc)) c.format.ensures.ok
