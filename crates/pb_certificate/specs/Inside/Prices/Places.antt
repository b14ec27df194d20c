-- How far the records of a file were gone over, for the reader's own parts. No claim on a file rests on this.
use Rattle.std.specs.Prelude.{◌≡◌, ◌≤◌, ◌-◌, ◌⊎◌, IsTrue, true, false, Bool, ℕ, List, take, drop, None, Result, Ok, Err, length}
use Rattle.std.specs.List.{AllByRecursion}
use Rattle.pb_records.specs.Records.{Rec}
use Rattle.pb_records.specs.Cells.{is_text, nonblank}
use Rattle.pb_records.specs.FirstFault.{Form, IsFirstFault, fault_at}
use Rattle.pb_records.specs.Inside.Position.{MeetsEnd, MeetsNotText, MeetsRecord, Position}
use Rattle.pb_certificate.specs.Faults.{no_memory}
use Rattle.pb_certificate.specs.declared.refusal.CertFault.{CertFault}
use Rattle.pb_certificate.specs.declared.refusal.CertFault.TheVariants as fault
use Rattle.pb_certificate.specs.declared.refusal.CertRefusal.{CertRefusal}

-- a cursor stands over these records behind just these that are not blank, and no fault stands at a place behind
pub record StandsBehind (form : Form CertFault) (recs : List Rec) (c : Position) (before : List Rec) : Type 0 where
  pub within : c.record_number ≤ length recs
  pub left : c.left ≡ drop c.record_number recs
  pub behind : nonblank (take c.record_number recs) ≡ before
  pub text : AllByRecursion (λ r. IsTrue (is_text r)) before
  pub clear : (k : ℕ) → k ≤ c.record_number → fault_at form recs k ≡ None

-- the file is refused behind just these records that are not blank
pub record RefusedBehind (form : Form CertFault) (recs before : List Rec) (r : CertRefusal) : Type 0 where
  pub first : IsFirstFault form recs r.record_number r.fault
  pub behind : nonblank (take (r.record_number - 1) recs) ≡ before

-- whether a record comes next
abbrev pub Comes : Position → Position → Result Bool CertRefusal → Type 0
Comes old new (Ok true) = MeetsRecord old new
Comes old new (Ok false) = MeetsEnd old new
Comes old new (Err r) = (r ≡ no_memory) ⊎ ((r.fault ≡ fault.NotUtf8) × (r.record_number ≡ new.record_number) × MeetsNotText old new)
