use Rattle.csv.specs.Records.{fields_of}
use Rattle.pb_records.proofs.Headed.{row-steps}
use Rattle.pb_certificate.specs.Inside.Marks.{project_marks}
use Rattle.pb_certificate.specs.Inside.Outcomes.{after_outcome_row}
use Rattle.pb_certificate.specs.Outcomes.Kind.{outcome_kind}
use Rattle.pb_certificate.proofs.OnOutcomes.Texts.{after-row}
use Rattle.pb_certificate.proofs.outcomes.draft.OutcomeDraft.take_record.Goals as goal

pub returns-then-self : goal.returns-then-self
returns-then-self c =
    let e = c.args.election.now in
    let old = c.args.self.now in
    let new = c.take_row.new.self in
    let r = fields_of c.args.row.now in
    row-steps (outcome_kind e) (project_marks e) (λ marks. after_outcome_row e marks r) old.begun new.begun
    old.marks.items new.marks.items r c.take_row.result c.if-self.true c.take_row.ensures.begun
    (λ names. after-row e names r) c.take_row.ensures.marks
