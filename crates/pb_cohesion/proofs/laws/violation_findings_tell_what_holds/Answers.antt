use Rattle.pb_cohesion.proofs.Verdicts.{findings-tell}
use Rattle.pb_cohesion.proofs.laws.violation_findings_tell_what_holds.Goals as goal

pub returns : goal.returns
returns c = findings-tell
