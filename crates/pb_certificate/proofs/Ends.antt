-- How the reading of a file ends.
use Rattle.std.proofs.Common.{◌≡◌, List, refl, inl, inr}
use Rattle.std.specs.Prelude.{◌⊎◌}
use Rattle.pb_records.specs.Records.{Rec}
use Rattle.pb_records.specs.Inside.Drafts.{StopsFirst}
use Rattle.pb_records.specs.FirstFault.{Form, IsFirstFault}
use Rattle.pb_records.specs.declared.drafts.FaultAt.{FaultAt}
use Rattle.pb_records.specs.declared.drafts.Stop.{Stop}
use Rattle.pb_records.specs.declared.drafts.Stop.TheVariants.{Fault, Memory}
use Rattle.pb_certificate.specs.Faults.{no_memory, refusal_where_stopped}
use Rattle.pb_certificate.specs.declared.refusal.CertFault.{CertFault}

-- a reading that stopped refuses the file
pub stop-refuses : (form : Form CertFault) (recs : List Rec) (stop : Stop (FaultAt CertFault))
    → StopsFirst form recs stop
    → (refusal_where_stopped stop ≡ no_memory)
    ⊎ IsFirstFault form recs (refusal_where_stopped stop).record_number (refusal_where_stopped stop).fault
stop-refuses form recs (Fault f) first = inr first
stop-refuses form recs Memory first = inl refl

-- and where no fault can be the first, it was out of memory
pub stop-is-memory : (form : Form CertFault) (recs : List Rec) (stop : Stop (FaultAt CertFault))
    → StopsFirst form recs stop
    → ((f : FaultAt CertFault) → IsFirstFault form recs f.record_number f.fault → ⊥) → refusal_where_stopped stop ≡ no_memory
stop-is-memory form recs (Fault f) first none = absurd (none f first)
stop-is-memory form recs Memory first none = refl
