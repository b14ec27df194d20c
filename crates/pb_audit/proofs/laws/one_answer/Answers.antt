use Rattle.pb_audit.proofs.OneInTurn.{question-one}
use Rattle.pb_audit.proofs.OneReport.{report-one}
use Rattle.pb_audit.proofs.laws.one_answer.Goals as goal

pub returns : goal.returns
returns c = record { question = question-one; folder = report-one }
