use Rattle.std.proofs.Common.{arith}
use Rattle.pb_price.proofs.open_tally.OpenTally.close_to.Goals as goal

pub loop-self-init : goal.loop-self-init
loop-self-init c = record { taken = λ a h. h; order = c.requires.order }

pub close-requires : goal.close-requires
close-requires c = grind arith

pub loop-self-preserved : goal.loop-self-preserved
loop-self-preserved c = grind arith

pub returns-clause-taken : goal.returns-clause-taken
returns-clause-taken c = c.loop-self.invariant.taken
