use Rattle.std.proofs.Common.{◌∙◌, sym}
use Rattle.pb_election.proofs.Reading.{fault-end}
use Rattle.pb_election.proofs.election_draft.ElectionDraftDraftUnit.end.Goals as goal

pub returns : goal.returns
returns c = λ before h. c.fault_at_end.ensures ∙ sym (fault-end c.args.self.now before h)
