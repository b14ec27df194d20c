use Rattle.pb_records.proofs.First.{one-first}
use Rattle.pb_certificate.specs.Faults.{price_form}
use Rattle.pb_certificate.proofs.OnPrices.Answered.{price-answered}
use Rattle.pb_certificate.proofs.OnPrices.Clear.{price-clear}
use Rattle.pb_certificate.proofs.Unique.{price-text-same}
use Rattle.pb_certificate.proofs.laws.one_answer_on_prices.Goals as goal

pub returns : goal.returns
returns c =
    record {
      answered = price-answered;
      apart = λ recs e p record_number f text. price-clear recs e p text record_number f;
      alone = price-text-same;
      first = λ recs e. one-first (price_form e) recs;
    }
