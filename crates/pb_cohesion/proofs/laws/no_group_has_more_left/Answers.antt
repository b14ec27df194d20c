use Rattle.pb_cohesion.proofs.Plain.{after_C5, every_group}
use Rattle.pb_cohesion.proofs.laws.no_group_has_more_left.Goals as goal

pub returns-clause-every_group : goal.returns-clause-every_group
returns-clause-every_group c =
    λ e w p within plain s project unfunded group. every_group e w p s project within plain unfunded group

pub returns-clause-at_culprit : goal.returns-clause-at_culprit
returns-clause-at_culprit c = after_C5
