use Rattle.std.proofs.Common.{arith}
use Rattle.pb_price.proofs.open_tally.OpenTally.take.Goals as goal

pub close_to-requires : goal.close_to-requires
close_to-requires c = grind arith

pub open-requires : goal.open-requires
open-requires c = grind arith

pub add-requires : goal.add-requires
add-requires c = grind arith

pub returns-clause-taken : goal.returns-clause-taken
returns-clause-taken c = λ a b h r. c.add.ensures.taken a b (c.open.ensures.taken a (c.close_to.ensures.taken a h)) r
