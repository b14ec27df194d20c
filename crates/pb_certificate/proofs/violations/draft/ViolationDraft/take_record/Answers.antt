use Rattle.std.proofs.Common.{refl}
use Rattle.csv.specs.Records.{fields_of}
use Rattle.pb_records.proofs.Headed.{row-steps}
use Rattle.pb_certificate.specs.Inside.Violations.{after_violation_row, both_marks, violation_had}
use Rattle.pb_certificate.specs.Violations.Kind.{violation_kind}
use Rattle.pb_certificate.proofs.OnViolations.Texts.{after-row}
use Rattle.pb_certificate.proofs.violations.draft.ViolationDraft.take_record.Goals as goal

pub returns-in-Row : goal.returns-in-Row
returns-in-Row c =
    let e = c.args.election.now in
    let old = violation_had c.args.self.now in
    let new = violation_had c.mark_row.new.self in
    let r = fields_of c.args.row.now in
    row-steps (violation_kind e) (both_marks e) (λ kept. after_violation_row e kept r) old.0 new.0 old.1 new.1 r c.mark_row.result
    (rw c.in-Row.is refl) c.mark_row.ensures.head (λ rows. after-row e rows r) c.mark_row.ensures.marks
