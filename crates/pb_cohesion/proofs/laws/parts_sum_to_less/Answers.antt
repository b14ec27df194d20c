use Rattle.pb_cohesion.proofs.Sums.{part-le}
use Rattle.pb_cohesion.proofs.laws.parts_sum_to_less.Goals as goal

pub returns : goal.returns
returns c = part-le
