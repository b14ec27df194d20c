use Rattle.pb_cohesion.proofs.Shares.{none_passed_over, shares_reach}
use Rattle.pb_cohesion.proofs.laws.shares_within_reach.Goals as goal

pub returns-clause-reached : goal.returns-clause-reached
returns-clause-reached c = λ e w p low approved paid_for none_wasted form reached s project unfunded group.
    shares_reach e w p s project low approved paid_for none_wasted form reached unfunded group

pub returns-clause-covered : goal.returns-clause-covered
returns-clause-covered c = λ e w p approved paid_for none_wasted form cover s project passed. none_passed_over e w p s
    project approved paid_for none_wasted form cover passed
