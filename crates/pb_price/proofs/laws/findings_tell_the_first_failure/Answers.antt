use Rattle.pb_price.proofs.Told.{tell-first}
use Rattle.pb_price.proofs.laws.findings_tell_the_first_failure.Goals as goal

pub returns : goal.returns
returns c = tell-first
