use Rattle.pb_records.proofs.First.{one-first}
use Rattle.pb_certificate.specs.Faults.{refutation_form}
use Rattle.pb_certificate.proofs.OnRefutations.Answered.{refutation-answered}
use Rattle.pb_certificate.proofs.OnRefutations.Clear.{refutation-clear}
use Rattle.pb_certificate.proofs.OnRefutations.Texts.{refutation-text-same}
use Rattle.pb_certificate.proofs.laws.one_answer_on_refutations.Goals as goal

pub returns : goal.returns
returns c =
    record {
      answered = refutation-answered;
      apart = λ recs e w record_number f text. refutation-clear recs e w text record_number f;
      alone = refutation-text-same;
      first = λ recs e. one-first (refutation_form e) recs;
    }
