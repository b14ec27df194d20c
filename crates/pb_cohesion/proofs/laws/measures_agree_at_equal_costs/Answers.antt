use Rattle.pb_cohesion.proofs.EjrPlus.{short_by_both}
use Rattle.pb_cohesion.proofs.laws.measures_agree_at_equal_costs.Goals as goal

pub returns : goal.returns
returns c = short_by_both
