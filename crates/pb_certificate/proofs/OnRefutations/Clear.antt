-- The text of a refutation has no fault.
use Rattle.std.proofs.Common.{List, ℕ}
use Rattle.pb_election.specs.Instance.{Instance}
use Rattle.pb_records.specs.FirstFault.{IsFirstFault}
use Rattle.pb_records.specs.Records.{Rec}
use Rattle.pb_records.proofs.Headed.{states-clear}
use Rattle.pb_certificate.specs.Faults.{refutation_form}
use Rattle.pb_certificate.specs.Refutations.{Weights}
use Rattle.pb_certificate.specs.Refutations.Kind.{refutation_kind}
use Rattle.pb_certificate.specs.Refutations.Text.{IsRefutationText}
use Rattle.pb_certificate.specs.declared.refusal.CertFault.{CertFault}
use Rattle.pb_certificate.proofs.OnRefutations.Heads.{text-states}

pub refutation-clear : (recs : List Rec) (e : Instance) (w : Weights) → IsRefutationText recs e w → (k : ℕ)
    (f : CertFault) → IsFirstFault (refutation_form e) recs k f → ⊥
unfolding refutation_form
refutation-clear recs e w t = states-clear (refutation_kind e) recs (text-states recs e w t)
