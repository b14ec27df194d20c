use Rattle.pb_cohesion.proofs.Reaches.{within_reach}
use Rattle.pb_cohesion.proofs.laws.budgets_within_reach.Goals as goal

pub returns : goal.returns
returns c = λ e w p approved paid_for none_wasted form s project unfunded group. within_reach e w p s project approved
    paid_for none_wasted form unfunded group
