use Rattle.std.specs.Prelude.{Err, Ok}
use Rattle.csv.specs.Records.{fields_of}
use Rattle.pb_records.proofs.Headed.{steps-stop, steps-take}
use Rattle.pb_certificate.specs.Inside.Marks.{project_marks}
use Rattle.pb_certificate.specs.Inside.Outcomes.{outcome_had}
use Rattle.pb_certificate.specs.Outcomes.Kind.{outcome_kind}
use Rattle.pb_certificate.proofs.outcomes.draft.OutcomeDraftDraftElection.take.Goals as goal

pub returns-in-Ok-clause-taken : goal.returns-in-Ok-clause-taken
returns-in-Ok-clause-taken c =
    let e = c.args.election.now in
    steps-take (outcome_kind e) (project_marks e) (outcome_had c.args.self.now)
    (outcome_had c.take_record.new.self) (fields_of c.args.row.now) (Ok c.in-Ok.field-0)
    c.requires.text c.in-Ok.ensures

pub returns-in-Err-clause-stopped : goal.returns-in-Err-clause-stopped
returns-in-Err-clause-stopped c =
    let e = c.args.election.now in
    steps-stop (outcome_kind e) (project_marks e) (outcome_had c.args.self.now)
    (outcome_had c.take_record.new.self) (fields_of c.args.row.now) (Err c.in-Err.fault)
    c.requires.text c.in-Err.ensures
