use Rattle.std.proofs.Common.{◌∙◌, arith}
use Rattle.pb_price.proofs.open_tally.OpenTally.finish.Goals as goal

pub close_to-requires : goal.close_to-requires
close_to-requires c = grind arith

pub returns-clause-taken : goal.returns-clause-taken
returns-clause-taken c = c.close_to.ensures.taken

pub returns-clause-closed : goal.returns-clause-closed
returns-clause-closed c = c.close_to.ensures.closed ∙ c.voters.ensures.value
