use Rattle.pb_records.proofs.First.{one-first}
use Rattle.pb_certificate.specs.Faults.{violation_form}
use Rattle.pb_certificate.proofs.OnViolations.Answered.{group-answered}
use Rattle.pb_certificate.proofs.OnViolations.Clear.{group-clear}
use Rattle.pb_certificate.proofs.Unique.{group-text-same}
use Rattle.pb_certificate.proofs.laws.one_answer_on_violations.Goals as goal

pub returns : goal.returns
returns c =
    record {
      answered = group-answered;
      apart = λ recs e m s t record_number f text. group-clear recs e m s t text record_number f;
      alone = group-text-same;
      first = λ recs e. one-first (violation_form e) recs;
    }
