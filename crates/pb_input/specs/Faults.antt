-- The names of the inputs, and what the faults are for which one is refused.
use Rattle.std.specs.Prelude.{Bool, true, false, ℕ, codes}
use Rattle.pb_certificate.specs.Faults as certificates
use Rattle.pb_certificate.specs.declared.refusal.CertFault.{CertFault}
use Rattle.pb_certificate.specs.declared.refusal.CertFault.TheVariants as cert_fault
use Rattle.pb_election.specs.Faults as elections
use Rattle.pb_election.specs.declared.refusal.ElectionFault.{ElectionFault}
use Rattle.pb_election.specs.declared.refusal.ElectionFault.TheVariants as election_fault
use Rattle.pb_records.specs.Records.{Text}
use Rattle.pb_input.specs.declared.InputFault.{InputFault}
use Rattle.pb_input.specs.declared.InputFault.TheVariants as fault
use Rattle.pb_input.specs.declared.InputName.{InputName}
use Rattle.pb_input.specs.declared.InputName.TheVariants as name

-- the names of the inputs
abbrev pub name_of : InputName → Text
name_of name.Election = codes "election"
name_of name.Outcome = codes "outcome"
name_of name.Certificate = codes "certificate"
name_of name.Prices = codes "prices"
name_of name.Violation = codes "violation"
name_of name.Folder = codes "folder"

-- the number of a fault, its name, and the record at which it stands
abbrev pub fault_number : InputFault → ℕ
fault_number fault.Unread = 18
fault_number fault.TooLong = 19
fault_number (fault.Election r) = elections.fault_number r.fault
fault_number (fault.Certificate r) = certificates.fault_number r.fault

abbrev pub fault_name : InputFault → Text
fault_name fault.Unread = codes "Read"
fault_name fault.TooLong = codes "TooLong"
fault_name (fault.Election r) = elections.fault_name r.fault
fault_name (fault.Certificate r) = certificates.fault_name r.fault

abbrev pub fault_record : InputFault → ℕ
fault_record fault.Unread = 0
fault_record fault.TooLong = 0
fault_record (fault.Election r) = r.record_number
fault_record (fault.Certificate r) = r.record_number

-- whether a fault is out of memory, and not one of the input
abbrev pub is_election_memory : ElectionFault → Bool
is_election_memory election_fault.Memory = true
is_election_memory _ = false

abbrev pub is_certificate_memory : CertFault → Bool
is_certificate_memory cert_fault.Memory = true
is_certificate_memory _ = false

abbrev pub wants_memory : InputFault → Bool
wants_memory fault.Unread = false
wants_memory fault.TooLong = false
wants_memory (fault.Election r) = is_election_memory r.fault
wants_memory (fault.Certificate r) = is_certificate_memory r.fault
