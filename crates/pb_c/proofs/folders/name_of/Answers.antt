use Rattle.std.proofs.Common.{sym}
use Rattle.pb_c.proofs.Names.{a_name, no_text}
use Rattle.pb_c.proofs.folders.name_of.Goals as goal

pub returns-in-true : goal.returns-in-true
returns-in-true c = a_name _ c.in-Ok.name.now c.in-Ok.ensures.cases.0 c.in-Ok.ensures.cases.1 (sym c.in-true.ensures)

pub returns-in_default : goal.returns-in_default
returns-in_default c = no_text _ c.in_default.ensures.cases.0
