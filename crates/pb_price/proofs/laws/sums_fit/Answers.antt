use Rattle.pb_price.proofs.Ranges.{all-sums-fit}
use Rattle.pb_price.proofs.laws.sums_fit.Goals as goal

pub returns : goal.returns
returns c = all-sums-fit
