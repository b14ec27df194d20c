use Rattle.std.proofs.lemmas.Result.{IfOk-weaker}
use Rattle.pb_c.specs.Commands.{measure_of}
use Rattle.pb_c.proofs.Lent.{file-gives, given-file-gives, groups-page-weaker}
use Rattle.pb_c.proofs.answers.groups_page_on.Goals as goal

pub returns : goal.returns
returns c =
    IfOk-weaker c.groups_page_answer.result _ _
    (groups-page-weaker (measure_of c.args.by_count) c.args.language _ _ _ _
    (file-gives _ _ _ c.in_memory-election.ensures)
    (given-file-gives _ _ _ c.file_given-outcome.ensures))
    (rw c.measure_of-measure.ensures at c.groups_page_answer.ensures)
