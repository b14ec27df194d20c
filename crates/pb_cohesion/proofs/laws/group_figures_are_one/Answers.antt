use Rattle.pb_cohesion.proofs.OneShown.{figures_are_one, figures_exist}
use Rattle.pb_cohesion.proofs.laws.group_figures_are_one.Goals as goal

pub returns-clause-exist : goal.returns-clause-exist
returns-clause-exist c = figures_exist

pub returns-clause-one : goal.returns-clause-one
returns-clause-one c = figures_are_one
