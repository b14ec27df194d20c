-- The text of an outcome file has no fault.
use Rattle.std.proofs.Common.{Bool, List, ℕ}
use Rattle.pb_election.specs.Instance.{Instance}
use Rattle.pb_records.specs.FirstFault.{IsFirstFault}
use Rattle.pb_records.specs.Records.{Rec}
use Rattle.pb_records.proofs.Headed.{states-clear}
use Rattle.pb_certificate.specs.Faults.{outcome_form}
use Rattle.pb_certificate.specs.Outcomes.Kind.{outcome_kind}
use Rattle.pb_certificate.specs.Outcomes.Text.{IsOutcomeText}
use Rattle.pb_certificate.specs.declared.refusal.CertFault.{CertFault}
use Rattle.pb_certificate.proofs.OnOutcomes.Texts.{text-states}

pub outcome-clear : (recs : List Rec) (e : Instance) (w : List Bool) → IsOutcomeText recs e w → (k : ℕ) (f : CertFault)
    → IsFirstFault (outcome_form e) recs k f → ⊥
unfolding outcome_form
outcome-clear recs e w t = states-clear (outcome_kind e) recs (text-states recs e w t)
