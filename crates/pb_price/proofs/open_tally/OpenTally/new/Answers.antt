use Rattle.std.proofs.Common.{refl}
use Rattle.pb_price.proofs.Starting.{none-at-hand}
use Rattle.pb_price.proofs.open_tally.OpenTally.new.Goals as goal

pub returns : goal.returns
returns c = (
  record { tally = c.in_ok-tally.ensures.0; at_hand = none-at-hand _ _ _ _ (λ k. refl) refl refl },
  c.in_ok-tally.ensures.1,
)
