use Rattle.std.proofs.Common.{arith}
use Rattle.std.proofs.lemmas.Grind.{common_steps}
use Rattle.pb_money.proofs.Laws.{money-value}
use Rattle.pb_election.specs.Faults.{lowest_fault}
use Rattle.pb_election.proofs.election_draft.ElectionDraft.take_project.Goals.{in-Err, in-Ok-add}
use Rattle.pb_election.proofs.election_draft.ElectionDraft.take_project.Goals as goal

pub returns : goal.returns
unfolding lowest_fault
returns c = grind (arith, in-Ok-add, common_steps, money-value, in-Err)
