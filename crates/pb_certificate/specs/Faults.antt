-- The faults of certificates and outcome files: where each stands.
use Rattle.std.specs.Prelude.{ℕ, List, codes}
use Rattle.std.specs.Str.{byte}
use Rattle.pb_election.specs.Instance.{Instance}
use Rattle.pb_records.specs.Records.{Field, Rec, records_of}
use Rattle.pb_records.specs.FirstFault.{Form, IsFirstFault}
use Rattle.pb_records.specs.Headed.{headed_form}
use Rattle.pb_records.specs.declared.drafts.FaultAt.{FaultAt}
use Rattle.pb_records.specs.declared.drafts.Stop.{Stop}
use Rattle.pb_records.specs.declared.drafts.Stop.TheVariants.{Fault, Memory}
use Rattle.pb_certificate.specs.Outcomes.Kind.{outcome_kind}
use Rattle.pb_certificate.specs.Prices.Kind.{price_kind}
use Rattle.pb_certificate.specs.Violations.Kind.{violation_kind}
use Rattle.pb_certificate.specs.Refutations.Kind.{refutation_kind}
use Rattle.pb_certificate.specs.declared.refusal.CertFault.{CertFault}
use Rattle.pb_certificate.specs.declared.refusal.CertFault.TheVariants as fault
use Rattle.pb_certificate.specs.declared.refusal.CertRefusal.{CertRefusal}

-- Which fault stands where, by the records before a place that are not blank, and by the record there, which is none at
-- the end. Of these the proofs of other crates need no more than the name.
unfoldable pub price_form : Instance → Form CertFault
price_form e = headed_form (price_kind e)

unfoldable pub violation_form : Instance → Form CertFault
violation_form e = headed_form (violation_kind e)

unfoldable pub outcome_form : Instance → Form CertFault
outcome_form e = headed_form (outcome_kind e)

unfoldable pub refutation_form : Instance → Form CertFault
refutation_form e = headed_form (refutation_kind e)

-- the records of a certificate or an outcome file
abbrev pub certificate_records : List ℕ → List Rec
certificate_records bytes = records_of (byte ",") bytes

-- the bytes of a file of this form are refused so: no fault stands before that place, and this one stands there
abbrev pub Refuses : Form CertFault → List ℕ → CertRefusal → Type 0
Refuses form bytes r = IsFirstFault form (certificate_records bytes) r.record_number r.fault

-- the refusal that no record causes
abbrev pub no_memory : CertRefusal
no_memory = record { fault = fault.Memory; record_number = 0 }

-- the refusal of a file whose reading stopped so
abbrev pub refusal_where_stopped : Stop (FaultAt CertFault) → CertRefusal
refusal_where_stopped (Fault f) = record { fault = f.fault; record_number = f.record_number }
refusal_where_stopped Memory = no_memory

-- the number and the name of a fault
abbrev pub fault_number : CertFault → ℕ
fault_number fault.NotUtf8 = 20
fault_number fault.BadHead = 21
fault_number fault.BadRow = 22
fault_number fault.BadNumber = 23
fault_number fault.UnknownVoter = 24
fault_number fault.UnknownProject = 25
fault_number fault.OutOfOrder = 26
fault_number fault.Repeated = 27
fault_number fault.TooMany = 28
fault_number fault.Memory = 29

abbrev pub fault_name : CertFault → Field
fault_name fault.NotUtf8 = codes "NotUtf8"
fault_name fault.BadHead = codes "BadHead"
fault_name fault.BadRow = codes "BadRow"
fault_name fault.BadNumber = codes "BadNumber"
fault_name fault.UnknownVoter = codes "UnknownVoter"
fault_name fault.UnknownProject = codes "UnknownProject"
fault_name fault.OutOfOrder = codes "OutOfOrder"
fault_name fault.Repeated = codes "Repeated"
fault_name fault.TooMany = codes "TooMany"
fault_name fault.Memory = codes "Memory"
