use Rattle.pb_cohesion.proofs.Justified.{stable_has_no_violation}
use Rattle.pb_cohesion.proofs.laws.stable_prices_exclude_violations.Goals as goal

pub returns : goal.returns
returns c e w p approved paid_for none_wasted stable cover s t group projects violation =
    stable_has_no_violation e w p s t approved paid_for none_wasted stable cover group projects violation
