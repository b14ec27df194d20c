use Rattle.pb_cohesion.proofs.EjrPlus.{stable_has_ejr_plus}
use Rattle.pb_cohesion.proofs.laws.stable_prices_satisfy_ejr_plus.Goals as goal

pub returns : goal.returns
returns c e w p approved none_wasted stable cover s project short =
    stable_has_ejr_plus e w p s project approved none_wasted stable cover short
