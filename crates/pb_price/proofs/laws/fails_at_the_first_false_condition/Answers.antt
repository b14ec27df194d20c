use Rattle.pb_price.proofs.FirstFalse.{first-false-iff}
use Rattle.pb_price.proofs.laws.fails_at_the_first_false_condition.Goals as goal

pub returns : goal.returns
returns c = first-false-iff
