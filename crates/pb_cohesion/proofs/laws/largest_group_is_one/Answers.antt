use Rattle.pb_cohesion.proofs.Members.{one-largest}
use Rattle.pb_cohesion.proofs.laws.largest_group_is_one.Goals as goal

pub returns : goal.returns
returns c m e w s t project first second = one-largest m e w s t project first second
