use Rattle.pb_cohesion.proofs.Refuted.{findings-tell}
use Rattle.pb_cohesion.proofs.laws.refutation_findings_tell_what_holds.Goals as goal

pub returns : goal.returns
returns c = findings-tell
