use Rattle.pb_cohesion.proofs.EjrPlus.{larger_stays_good, lower_limit_stays_good}
use Rattle.pb_cohesion.proofs.laws.ejr_plus_stays.Goals as goal

pub returns-clause-more_funded : goal.returns-clause-more_funded
returns-clause-more_funded c = λ m e v w fair more s project short. larger_stays_good m e w v s project fair more short

pub returns-clause-lower_limit : goal.returns-clause-lower_limit
returns-clause-lower_limit c = λ m e w l fair lower s project short. lower_limit_stays_good m e w l s project lower fair
    short
