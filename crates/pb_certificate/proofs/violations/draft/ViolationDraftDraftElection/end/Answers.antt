use Rattle.std.proofs.Common.{◌≡◌, None, Some, false, refl}
use Rattle.pb_records.proofs.Headed.{end-told}
use Rattle.pb_certificate.specs.Inside.Violations.{both_marks, violation_had}
use Rattle.pb_certificate.specs.Violations.Kind.{awaits_row, violation_kind}
use Rattle.pb_certificate.specs.declared.violations.draft.Awaited.{Awaited}
use Rattle.pb_certificate.specs.declared.violations.draft.Awaited.TheVariants.{Format, Satisfaction, Row}
use Rattle.pb_certificate.specs.declared.refusal.CertFault.TheVariants as fault
use Rattle.pb_certificate.proofs.violations.draft.ViolationDraftDraftElection.end.Goals as goal

short : (a : Awaited) → (a ≡ Row → ⊥) → awaits_row a ≡ false
short Format other = refl
short Satisfaction other = refl
short Row other = absurd (other refl)

pub returns-in-Row : goal.returns-in-Row
returns-in-Row c =
    let e = c.args._election.now in
    let had = violation_had c.args.self.now in
    end-told (violation_kind e) (both_marks e) had.0 had.1 None (rw c.in-Row.is refl)

pub returns-in_default : goal.returns-in_default
returns-in_default c =
    let e = c.args._election.now in
    let had = violation_had c.args.self.now in
    end-told (violation_kind e) (both_marks e) had.0 had.1 (Some fault.BadHead)
    (rw (short c.args.self.now.awaited c.in_default.not-Row) refl)
