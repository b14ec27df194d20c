use Rattle.std.proofs.lemmas.Result.{IfOk-weaker}
use Rattle.pb_audit.proofs.Weaker.{answers-weaker}
use Rattle.pb_c.proofs.Lent.{file-gives, given-file-gives}
use Rattle.pb_c.proofs.answers.noted_answer_on.Goals as goal

pub returns : goal.returns
returns c =
    IfOk-weaker c.answer.result _ _
    (answers-weaker c.args.format c.args.question _ _ _ _ _ _ _ _
    (file-gives _ _ _ c.in_memory-election.ensures)
    (given-file-gives _ _ _ c.file_given-outcome.ensures)
    (file-gives _ _ _ c.in_memory-certificate.ensures)
    (file-gives _ _ _ c.in_memory-violation.ensures))
    c.answer.ensures.answers
