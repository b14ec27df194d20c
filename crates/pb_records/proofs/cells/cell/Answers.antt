use Rattle.std.proofs.Common.{refl}
use Rattle.pb_money.specs.Digits.{drop_back, drop_front}
use Rattle.pb_records.proofs.cells.cell.Goals as goal

pub returns-in-None : goal.returns-in-None
unfolding drop_front drop_back
returns-in-None c = rw (← c.in-None.ensures.value) refl
