-- The text of a violation certificate has no fault.
use Rattle.std.proofs.Common.{List, ℕ}
use Rattle.pb_election.specs.Instance.{Instance}
use Rattle.pb_records.specs.FirstFault.{IsFirstFault}
use Rattle.pb_records.specs.Records.{Rec}
use Rattle.pb_records.proofs.Headed.{states-clear}
use Rattle.pb_certificate.specs.Faults.{violation_form}
use Rattle.pb_certificate.specs.Violations.Kind.{violation_kind}
use Rattle.pb_certificate.specs.Violations.Text.{IsViolationText}
use Rattle.pb_certificate.specs.declared.violations.measure.Measure.{Measure}
use Rattle.pb_certificate.specs.declared.refusal.CertFault.{CertFault}
use Rattle.pb_certificate.proofs.OnViolations.Texts.{text-states}

pub group-clear : (recs : List Rec) (e : Instance) (m : Measure) (s t : List ℕ) → IsViolationText recs e m s t
    → (k : ℕ) (f : CertFault) → IsFirstFault (violation_form e) recs k f → ⊥
unfolding violation_form
group-clear recs e m s t v = states-clear (violation_kind e) recs (text-states recs e m s t v)
