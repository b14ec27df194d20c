use Rattle.pb_cohesion.proofs.Stable.{offer-limited}
use Rattle.pb_cohesion.proofs.laws.offers_are_limited.Goals as goal

pub returns : goal.returns
returns c = offer-limited
