use Rattle.pb_election.proofs.Reading.{not-text}
use Rattle.pb_election.proofs.election_draft.ElectionDraftDraftUnit.not_text.Goals as goal

pub returns : goal.returns
returns c = λ before r e. not-text before r e
