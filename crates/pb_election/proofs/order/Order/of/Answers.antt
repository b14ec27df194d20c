use Rattle.std.proofs.Common.{arith}
use Rattle.std.proofs.lemmas.Grind.{common_steps}
use Rattle.std.proofs.lemmas.Option.{slice_get_read}
use Rattle.pb_election.proofs.IdLemmas.{indexed-none, new-after}
use Rattle.pb_election.proofs.order.Order.of.Goals as goal

pub invariant_of-order : goal.invariant_of-order
invariant_of-order c = rw c.new.ensures.items (indexed-none c.new-2.result c.new-2.ensures.empty)

pub add-requires : goal.add-requires
add-requires c = grind (arith, common_steps, new-after, slice_get_read)
