use Rattle.pb_certificate.proofs.OnPrices.Canon.Law.{no-other, states}
use Rattle.pb_certificate.proofs.laws.canonical_texts_read_back.Goals as goal

pub returns-clause-states : goal.returns-clause-states
returns-clause-states c = states

pub returns-clause-no_other : goal.returns-clause-no_other
returns-clause-no_other c = no-other
