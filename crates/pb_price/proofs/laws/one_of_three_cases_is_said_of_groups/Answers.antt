use Rattle.pb_price.proofs.SaidOfGroups.{is_case}
use Rattle.pb_price.proofs.laws.one_of_three_cases_is_said_of_groups.Goals as goal

pub returns : goal.returns
returns c = λ m e p. is_case m e p
