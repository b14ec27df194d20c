use Rattle.pb_cohesion.proofs.Least.{counts-at-most, counts-least}
use Rattle.pb_cohesion.proofs.laws.stable_counts_are_least.Goals as goal

pub returns-clause-least : goal.returns-clause-least
returns-clause-least c = counts-least

pub returns-clause-at_most : goal.returns-clause-at_most
returns-clause-at_most c = counts-at-most
