-- The first fault of a file: the one at the first record that has one, for every kind of file.
use Rattle.std.specs.Prelude.{◌≡◌, ◌<◌, ◌≤◌, ◌+◌, if◌then◌else◌, ℕ, zero, suc, List, length, take, slice_get, Option, Some, None}
use Rattle.pb_records.specs.Records.{Rec}
use Rattle.pb_records.specs.Cells.{is_blank, nonblank}

-- A form of file says which fault stands at a record, if it is there, or at the end, after the records before it that
-- are not blank. Where several stand at one record it says the one with the lowest number.
abbrev pub Form : Type 0 → Type 0
Form F = List Rec → Option Rec → Option F

-- the fault after some records, blank ones among them; a blank record has none
abbrev pub fault_after : {F : Type 0} → Form F → List Rec → Option Rec → Option F
fault_after form before None = form (nonblank before) None
fault_after form before (Some r) = if is_blank r then None else form (nonblank before) (Some r)

-- the fault at a record: records have the numbers from 1 on, blank ones too, and the end has the next
abbrev pub fault_at : {F : Type 0} → Form F → List Rec → ℕ → Option F
fault_at form recs zero = None
fault_at form recs (suc k) = fault_after form (take k recs) (slice_get recs k)

-- the fault stands at this record, and none stands before it
pub record IsFirstFault {F : Type 0} (form : Form F) (recs : List Rec) (record_number : ℕ) (f : F) : Type 0 where
  pub within : record_number ≤ length recs + 1
  pub here : fault_at form recs record_number ≡ Some f
  pub none_before : (k : ℕ) → k < record_number → fault_at form recs k ≡ None

-- no fault stands anywhere
abbrev pub NoFault : {F : Type 0} → Form F → List Rec → Type 0
NoFault form recs = (k : ℕ) → fault_at form recs k ≡ None
