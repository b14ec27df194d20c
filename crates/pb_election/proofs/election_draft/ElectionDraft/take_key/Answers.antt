use Rattle.std.proofs.Common.{arith}
use Rattle.std.proofs.lemmas.Grind.{common_steps}
use Rattle.pb_money.proofs.Laws.{money-value}
use Rattle.pb_election.specs.Faults.{lowest_fault}
use Rattle.pb_election.proofs.election_draft.ElectionDraft.take_key.Goals as goal

pub returns-in-Ok : goal.returns-in-Ok
unfolding lowest_fault
returns-in-Ok c = grind (arith, common_steps, money-value _ _ c.in-Ok.ensures.found)
