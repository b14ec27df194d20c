use Rattle.pb_price.proofs.Told.{supports-iff}
use Rattle.pb_price.proofs.laws.supported_where_each_condition_asked_for_holds.Goals as goal

pub returns : goal.returns
returns c = supports-iff
