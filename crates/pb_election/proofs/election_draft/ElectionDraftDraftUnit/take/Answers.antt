use Rattle.csv.specs.Records.{fields_of}
use Rattle.pb_election.proofs.Reading.{stopped, taken}
use Rattle.pb_election.proofs.election_draft.ElectionDraftDraftUnit.take.Goals as goal

pub returns-clause-taken : goal.returns-clause-taken
returns-clause-taken c =
    taken c.take_record.result c.args.self.now c.take_record.new.self (fields_of c.args.row.now) c.take_record.ensures

pub returns-clause-stopped : goal.returns-clause-stopped
returns-clause-stopped c =
    stopped c.take_record.result c.args.self.now c.take_record.new.self (fields_of c.args.row.now) c.take_record.ensures
