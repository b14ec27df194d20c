use Rattle.pb_cohesion.proofs.EjrPlus.{none_passed_over_by_cost}
use Rattle.pb_cohesion.proofs.laws.ejr_plus_passes_nobody_over.Goals as goal

pub returns : goal.returns
returns c e w fair s project passed = none_passed_over_by_cost e w s project fair passed
