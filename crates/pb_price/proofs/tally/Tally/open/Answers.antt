use Rattle.std.proofs.Common.{arith}
use Rattle.std.proofs.lemmas.List.{with_items_is}
use Rattle.pb_price.proofs.Bounds.{ballot-bound, changed-as, steps-bound}
use Rattle.pb_price.proofs.Closing.{opened}
use Rattle.pb_price.proofs.tally.Tally.open.Goals as goal

pub overflow_add-self : goal.overflow_add-self
overflow_add-self c =
    let bound =
    steps-bound c.args.election.now c.requires.tallied.0 c.args.self.now c.requires.tallied.2 c.requires.tallied.4 in
    grind (arith, ballot-bound)

pub mark-requires : goal.mark-requires
mark-requires c = grind arith

pub returns-clause-taken : goal.returns-clause-taken
returns-clause-taken c = grind (arith, with_items_is, changed-as, opened)
