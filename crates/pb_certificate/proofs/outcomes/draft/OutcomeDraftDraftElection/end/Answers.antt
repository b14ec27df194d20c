use Rattle.std.proofs.Common.{None, Some, refl}
use Rattle.pb_records.proofs.Headed.{end-told}
use Rattle.pb_certificate.specs.Inside.Marks.{project_marks}
use Rattle.pb_certificate.specs.Outcomes.Kind.{outcome_kind}
use Rattle.pb_certificate.specs.declared.refusal.CertFault.TheVariants as fault
use Rattle.pb_certificate.proofs.outcomes.draft.OutcomeDraftDraftElection.end.Goals as goal

pub returns-then-self : goal.returns-then-self
returns-then-self c =
    let e = c.args._election.now in
    let draft = c.args.self.now in
    end-told (outcome_kind e) (project_marks e) draft.begun draft.marks.items None
    (rw c.if-self.true refl)

pub returns : goal.returns
returns c =
    let e = c.args._election.now in
    let draft = c.args.self.now in
    end-told (outcome_kind e) (project_marks e) draft.begun draft.marks.items (Some fault.BadHead)
    (rw c.if-self.false refl)
