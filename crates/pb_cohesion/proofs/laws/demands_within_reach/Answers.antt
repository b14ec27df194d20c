use Rattle.pb_cohesion.proofs.Shares.{demands_reach, no_demand_passed_over}
use Rattle.pb_cohesion.proofs.laws.demands_within_reach.Goals as goal

pub returns-clause-reached : goal.returns-clause-reached
returns-clause-reached c = demands_reach

pub returns-clause-covered : goal.returns-clause-covered
returns-clause-covered c = no_demand_passed_over
