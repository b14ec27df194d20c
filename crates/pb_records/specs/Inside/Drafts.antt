-- For the readers' own parts: what is built from the records of a file, one record at a time. What a file states, and
-- why it is refused, is said without this module.
use Rattle.std.specs.Prelude.{◌≡◌, ◌++◌, ⊤, false, List, [], ◌∷◌, Option, Some, None}
use Rattle.pb_records.specs.Records.{Rec}
use Rattle.pb_records.specs.Cells.{is_text}
use Rattle.pb_records.specs.FirstFault.{Form, IsFirstFault}
use Rattle.pb_records.specs.declared.drafts.FaultAt.{FaultAt}
use Rattle.pb_records.specs.declared.drafts.Stop.{Stop}
use Rattle.pb_records.specs.declared.drafts.Stop.TheVariants.{Fault, Memory}

-- Here `old`, `new` and `has` say of a list of records, none of them blank, that a draft has taken just these.

-- the record has no fault, and was added to the records that the draft had taken
abbrev pub Takes : {F : Type 0} → Form F → (List Rec → Type 0) → (List Rec → Type 0) → Rec → Type 0
Takes form old new r = (before : List Rec) → old before → (form before (Some r) ≡ None) × new (before ++ r ∷ [])

-- the record has the fault that was told, after the records that the draft had taken; out of memory says nothing of it
abbrev pub StopsAt : {F : Type 0} → Form F → (List Rec → Type 0) → Rec → Stop F → Type 0
StopsAt form old r (Fault f) = (before : List Rec) → old before → form before (Some r) ≡ Some f
StopsAt form old r Memory = ⊤

-- what was told of the end, after the records that the draft had taken
abbrev pub TellsEnd : {F : Type 0} → Form F → (List Rec → Type 0) → Option F → Type 0
TellsEnd form has told = (before : List Rec) → has before → told ≡ form before None

-- what was told is the fault of each record that is no text
abbrev pub TellsNotText : {F : Type 0} → Form F → F → Type 0
TellsNotText form told = (before : List Rec) (r : Rec) → is_text r ≡ false → form before (Some r) ≡ Some told

-- the records have their first fault where it was told; out of memory says nothing of them
abbrev pub StopsFirst : {F : Type 0} → Form F → List Rec → Stop (FaultAt F) → Type 0
StopsFirst form recs (Fault f) = IsFirstFault form recs f.record_number f.fault
StopsFirst form recs Memory = ⊤
