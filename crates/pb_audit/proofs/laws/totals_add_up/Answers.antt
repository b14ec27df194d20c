use Rattle.pb_audit.proofs.Totals.{totals_add_up}
use Rattle.pb_audit.proofs.laws.totals_add_up.Goals as goal

pub returns : goal.returns
returns c = totals_add_up
