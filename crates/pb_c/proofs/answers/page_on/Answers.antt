use Rattle.std.proofs.lemmas.Result.{IfOk-weaker}
use Rattle.pb_c.proofs.Lent.{file-gives, given-file-gives, page-weaker}
use Rattle.pb_c.proofs.answers.page_on.Goals as goal

pub returns : goal.returns
returns c =
    IfOk-weaker c.page_answer.result _ _
    (page-weaker c.args.mode c.args.language _ _ _ _ _ _
    (file-gives _ _ _ c.in_memory-election.ensures)
    (given-file-gives _ _ _ c.file_given-outcome.ensures)
    (file-gives _ _ _ c.in_memory-certificate.ensures))
    c.page_answer.ensures
