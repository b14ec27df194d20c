use Rattle.std.specs.Prelude.{Err, Ok}
use Rattle.csv.specs.Records.{fields_of}
use Rattle.pb_records.proofs.Headed.{steps-stop, steps-take}
use Rattle.pb_certificate.specs.Inside.Violations.{both_marks, violation_had}
use Rattle.pb_certificate.specs.Violations.Kind.{violation_kind}
use Rattle.pb_certificate.proofs.violations.draft.ViolationDraftDraftElection.take.Goals as goal

pub returns-in-Ok-clause-taken : goal.returns-in-Ok-clause-taken
returns-in-Ok-clause-taken c =
    let e = c.args.election.now in
    steps-take (violation_kind e) (both_marks e) (violation_had c.args.self.now) (violation_had c.take_record.new.self)
    (fields_of c.args.row.now) (Ok c.in-Ok.field-0) c.requires.text c.in-Ok.ensures

pub returns-in-Err-clause-stopped : goal.returns-in-Err-clause-stopped
returns-in-Err-clause-stopped c =
    let e = c.args.election.now in
    steps-stop (violation_kind e) (both_marks e) (violation_had c.args.self.now) (violation_had c.take_record.new.self)
    (fields_of c.args.row.now) (Err c.in-Err.fault) c.requires.text c.in-Err.ensures
