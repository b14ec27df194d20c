use Rattle.pb_records.proofs.First.{one-first}
use Rattle.pb_certificate.specs.Faults.{outcome_form}
use Rattle.pb_certificate.proofs.OnOutcomes.Answered.{outcome-answered}
use Rattle.pb_certificate.proofs.OnOutcomes.Clear.{outcome-clear}
use Rattle.pb_certificate.proofs.Unique.{outcome-text-same}
use Rattle.pb_certificate.proofs.laws.one_answer_on_outcomes.Goals as goal

pub returns : goal.returns
returns c =
    record {
      answered = outcome-answered;
      apart = λ recs e w record_number f text. outcome-clear recs e w text record_number f;
      alone = outcome-text-same;
      first = λ recs e. one-first (outcome_form e) recs;
    }
