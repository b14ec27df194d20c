use Rattle.pb_cohesion.proofs.EjrPlus.{stable_has_ejr_plus_at_limit}
use Rattle.pb_cohesion.proofs.Exhausted.{no_violation_at_limit, none_passed_over_at_limit}
use Rattle.pb_cohesion.proofs.laws.exhaustive_is_as_good_as_cover_at_the_limit.Goals as goal

pub returns-clause-shares : goal.returns-clause-shares
returns-clause-shares c = λ e w p low approved within paid_for none_wasted exhaustive full s project passed.
    none_passed_over_at_limit e w p s project low approved within paid_for none_wasted exhaustive full passed

pub returns-clause-counting : goal.returns-clause-counting
returns-clause-counting c = λ e w p low approved within paid_for none_wasted stable exhaustive full s t group projects
    violation. no_violation_at_limit e w p s t low approved within paid_for none_wasted stable exhaustive full group
    projects violation

pub returns-clause-ejr_plus : goal.returns-clause-ejr_plus
returns-clause-ejr_plus c = λ e w p low approved within paid_for none_wasted stable exhaustive full s project short.
    stable_has_ejr_plus_at_limit e w p s project low approved within paid_for none_wasted stable exhaustive full short
