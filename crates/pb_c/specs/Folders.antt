-- The report on a folder, in parts.
use Rattle.std.specs.Prelude.{◌≡◌, ◌==◌, ◌&&◌, ◌⊎◌, if◌then◌else◌, [], ℕ, List, Option, Some, None}
use Rattle.std.specs.Str.{is_utf8}
use Rattle.pb_audit.specs.Names.{is_clean}
use Rattle.pb_audit.specs.Reports.{EntryFiles, TellsEntry, status_of, together, total_told}
use Rattle.pb_audit.specs.declared.parts.ToldEntry.{ToldEntry}
use Rattle.pb_audit.specs.declared.total.FolderStatus.{FolderStatus}
use Rattle.pb_audit.specs.declared.total.FolderStatus.TheVariants.{AllYes, SomeNo, SomeRefused}
use Rattle.pb_audit.specs.declared.total.Total.{Total}
use Rattle.pb_c.specs.Reports.{IsGiven, IsOutOfMemory, nothing_code}
use Rattle.pb_cohesion.specs.declared.Mode.{Mode}
use Rattle.pb_records.specs.Loading.{Delivery}
use Rattle.pb_records.specs.Loading as delivery
use Rattle.pb_records.specs.Records.{Text}
use Rattle.pb_reply.specs.Inputs.{in_memory}

-- How a file of an entry is, by a number: missing, there, or one that couldn't be read. There is no other number.
abbrev pub file_as : ℕ → List ℕ → Option (Option Delivery)
file_as n bytes =
    if n == 0 then Some None
    else (if n == 1 then Some (Some (in_memory bytes))
    else (if n == 2 then Some (Some delivery.Read)
    else None))

-- the name of an entry, which is a text that isn't empty and has no control character
abbrev pub name_of : List ℕ → Option Text
name_of bytes = if is_utf8 bytes && is_clean bytes then Some bytes else None

-- The files of a name. There is no entry without its election.
abbrev pub entry_of : Option Text → Option (Option Delivery) → Option (Option Delivery) → Option (Option Delivery)
    → Option EntryFiles
entry_of (Some name) (Some (Some election)) (Some prices) (Some violation) =
    Some (record { name = name; election = election; prices = prices; violation = violation })
entry_of _ _ _ _ = None

-- the number of how a report ends
abbrev pub folder_code : FolderStatus → ℕ
folder_code AllYes = 0
folder_code SomeNo = 1
folder_code SomeRefused = 2

-- the total of no files
abbrev pub no_files : Total
no_files = together []

-- What is told of an entry is reported: its text is given, with how many of its files are answered how.
pub record IsReportedEntry (m : Mode) (files : EntryFiles) (code : ℕ) (total : Total) (old new : List ℕ) (needed : ℕ) : Type 0 where
  pub told : ToldEntry
  pub tells : TellsEntry m files told
  pub ends : code ≡ folder_code (status_of told.total)
  pub counts : total ≡ told.total
  pub given : IsGiven told.text.items old new needed

-- that, or memory ran out
abbrev pub ReportsEntry : Mode → EntryFiles → ℕ → Total → List ℕ → List ℕ → ℕ → Type 0
ReportsEntry m files code total old new needed =
    IsReportedEntry m files code total old new needed ⊎ (IsOutOfMemory code old new needed × (total ≡ no_files))

-- there is no such entry, and nothing is written
pub record IsNoEntry (code : ℕ) (total : Total) (old new : List ℕ) (needed : ℕ) : Type 0 where
  pub ends : code ≡ nothing_code
  pub counts : total ≡ no_files
  pub nothing : needed ≡ 0
  pub untouched : new ≡ old

-- what is told of a total is reported
pub record IsReportedTotal (t : Total) (code : ℕ) (old new : List ℕ) (needed : ℕ) : Type 0 where
  pub ends : code ≡ folder_code (total_told t).status
  pub given : IsGiven (total_told t).text old new needed

abbrev pub ReportsTotal : Total → ℕ → List ℕ → List ℕ → ℕ → Type 0
ReportsTotal t code old new needed = IsReportedTotal t code old new needed ⊎ IsOutOfMemory code old new needed
