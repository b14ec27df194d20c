use Rattle.pb_election.specs.Instance.{all_projects, all_voters}
use Rattle.pb_cohesion.specs.Amounts.{pays}
use Rattle.pb_cohesion.proofs.Sums.{sum-exchange}
use Rattle.pb_cohesion.proofs.laws.double_sums_exchange.Goals as goal

pub returns-clause-sums : goal.returns-clause-sums
returns-clause-sums c = sum-exchange

pub returns-clause-payments : goal.returns-clause-payments
returns-clause-payments c e p = sum-exchange (pays p) (all_voters e) (all_projects e)
