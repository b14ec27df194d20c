-- The report on a folder: the files of each election that it lists, once and in order.
use Rattle.std.specs.Prelude.{◌≡◌, ◌++◌, ◌∷◌, [], List, Bool, true, false, Option, Some, None, codes, map, string_bytes}
use Rattle.std.specs.BTreeSet.{IsOrdered, contains_text}
use Rattle.std.specs.String.{string_cmp}
use Rattle.pb_audit.specs.Reports.{EntryFiles, HasTaken, Progress, ReportOf}
use Rattle.pb_audit.specs.declared.total.FolderStatus.{FolderStatus}
use Rattle.pb_input.specs.declared.InputFault.TheVariants as fault
use Rattle.pb_input.specs.declared.InputName.TheVariants as name
use Rattle.pb_input.specs.declared.InputRefusal.{InputRefusal}
use Rattle.pb_cohesion.specs.declared.Mode.{Mode}
use Rattle.pb_records.specs.Loading.{Delivery}
use Rattle.pb_records.specs.Records.{Text}
use Rattle.pb_reply.specs.Inputs.{refusal_of}
use Rattle.pb_reply.specs.Replies.{Answer}
use Rattle.pb_run.specs.Listings.{Entry, IsListingOf}
use Rattle.pb_run.specs.declared.listing.Listing.{Listing}

-- why a folder is refused that can't be listed
abbrev pub unlisted : InputRefusal
unlisted = refusal_of name.Folder fault.Unread

abbrev pub path_in : Text → Text → Text → Text
path_in folder name ending = folder ++ (codes "/" ++ (name ++ ending))

-- one file was handed out, of a path, and delivered this
pub record Loads {S I : Type 0} (hands : S → S → Text → I → Type 0) (delivers : I → I → Delivery → Type 0) (path : Text)
    (old new : S) (d : Delivery) : Type 0 where
  pub before : I
  pub after : I
  pub handed : hands old new path before
  pub delivered : delivers before after d

-- the same of a file that is there or not
abbrev pub LoadsBeside : {S I : Type 0} → (S → S → Text → I → Type 0) → (I → I → Delivery → Type 0) → Bool → Text → S → S → Option Delivery → Type 0
LoadsBeside hands delivers false path old new None = new ≡ old
LoadsBeside hands delivers true path old new (Some d) = Loads hands delivers path old new d
LoadsBeside hands delivers _ path old new _ = ⊥

-- the files of one name were handed out, in this order: the election, and the certificates that lie beside it
pub record LoadsEntry {S I : Type 0} (hands : S → S → Text → I → Type 0) (delivers : I → I → Delivery → Type 0)
    (folder : Text) (l : Listing) (name : Text) (old new : S) (files : EntryFiles) : Type 0 where
  pub after_election : S
  pub after_prices : S
  pub named : files.name ≡ name
  pub election : Loads hands delivers (path_in folder name (codes ".pb")) old after_election files.election
  pub prices : LoadsBeside hands delivers (contains_text l.prices name) (path_in folder name (codes ".prices.csv"))
      after_election after_prices files.prices
  pub violation : LoadsBeside hands delivers (contains_text l.violations name)
      (path_in folder name (codes ".violation.csv")) after_prices new files.violation

-- a report with the files of one name more
pub record AddsEntry {S I : Type 0} (hands : S → S → Text → I → Type 0) (delivers : I → I → Delivery → Type 0)
    (folder : Text) (l : Listing) (name : Text) (old new : S) (report more : Progress) : Type 0 where
  pub files : EntryFiles
  pub loads : LoadsEntry hands delivers folder l name old new files
  pub as_json : more.as_json ≡ report.as_json
  pub mode : more.mode ≡ report.mode
  pub taken : (entries : List EntryFiles) (written : Text) → HasTaken report entries written
      → HasTaken more (entries ++ files ∷ []) written

-- the files of each of these names were handed out, name by name
abbrev pub LoadsEach : {S I : Type 0} → (S → S → Text → I → Type 0) → (I → I → Delivery → Type 0) → Text → Listing
    → List Text → S → S → List EntryFiles → Type 0
LoadsEach hands delivers folder l [] old new [] = new ≡ old
LoadsEach hands delivers folder l (name ∷ names) old new (files ∷ rest) =
    (mid : _) × LoadsEntry hands delivers folder l name old mid files × LoadsEach hands delivers folder l names mid new rest
LoadsEach hands delivers folder l _ old new _ = ⊥

-- the names of the elections of a folder
abbrev pub names_of : Listing → List Text
names_of l = map (λ s. string_bytes s) l.elections.keys

-- The report on a folder's elections and certificates, as JSON or as lines: each election's files were handed out once, in the order of the
-- names, and this is the report on what they delivered.
pub record ReportsOn {S I : Type 0} (hands : S → S → Text → I → Type 0) (delivers : I → I → Delivery → Type 0)
    (json : Bool) (m : Mode) (folder : Text) (l : Listing) (old new : S) (report : Answer FolderStatus) : Type 0 where
  pub ordered : IsOrdered string_cmp l.elections
  pub entries : List EntryFiles
  pub loaded : LoadsEach hands delivers folder l (names_of l) old new entries
  pub report_of : ReportOf json m entries report

-- the same on the first of the elections, as many as there may be
pub record ReportsOnFirst {S I : Type 0} (hands : S → S → Text → I → Type 0) (delivers : I → I → Delivery → Type 0)
    (json : Bool) (m : Mode) (folder : Text) (l : Listing) (old : S) (report : Answer FolderStatus) : Type 0 where
  pub ordered : IsOrdered string_cmp l.elections
  pub first : List Text
  pub others : List Text
  pub names : names_of l ≡ first ++ others
  pub after_first : S
  pub entries : List EntryFiles
  pub loaded : LoadsEach hands delivers folder l first old after_first entries
  pub report_of : ReportOf json m entries report

-- the folder was listed, and has these elections and certificates
pub record ListsFolder {S : Type 0} (lists : S → S → Text → List Entry → Type 0) (folder : Text) (old new : S)
    (l : Listing) : Type 0 where
  pub listed : List Entry
  pub listing : lists old new folder listed
  pub is_of : IsListingOf listed l

-- the report on a folder, as it was listed
pub record ReportsFolder {S I : Type 0} (lists : S → S → Text → List Entry → Type 0)
    (hands : S → S → Text → I → Type 0) (delivers : I → I → Delivery → Type 0) (json : Bool) (m : Mode) (folder : Text)
    (old new : S) (report : Answer FolderStatus) : Type 0 where
  pub listing : Listing
  pub after_listing : S
  pub listed : ListsFolder lists folder old after_listing listing
  pub reported : ReportsOn hands delivers json m folder listing after_listing new report

-- the same on the first of its elections
pub record ReportsFirst {S I : Type 0} (lists : S → S → Text → List Entry → Type 0)
    (hands : S → S → Text → I → Type 0) (delivers : I → I → Delivery → Type 0) (json : Bool) (m : Mode) (folder : Text)
    (old : S) (report : Answer FolderStatus) : Type 0 where
  pub listing : Listing
  pub after_listing : S
  pub listed : ListsFolder lists folder old after_listing listing
  pub reported : ReportsOnFirst hands delivers json m folder listing after_listing report
