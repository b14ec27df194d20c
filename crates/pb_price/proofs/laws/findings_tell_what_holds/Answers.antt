use Rattle.pb_price.proofs.Told.{tell-what-holds}
use Rattle.pb_price.proofs.laws.findings_tell_what_holds.Goals as goal

pub returns : goal.returns
returns c = tell-what-holds
