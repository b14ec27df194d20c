-- How the report on a folder is written: as lines once the whole of it is there, and as JSON each object once that is
-- there.
use Rattle.std.specs.Prelude.{◌≡◌, ◌⊎◌, ◌++◌, [], Bool, true, false, List, Result, IfOk, IsErrOf}
use Rattle.std.specs.Io.KnownBytes.{Appends}
use Rattle.pb_audit.specs.Reports.{EntryFiles, HasTaken, Progress}
use Rattle.pb_audit.specs.declared.total.FolderStatus.{FolderStatus}
use Rattle.pb_cohesion.specs.declared.Mode.{Mode}
use Rattle.pb_records.specs.Loading.{AppendsFront, Delivery, IsFlushed, Rises}
use Rattle.pb_records.specs.Records.{Text}
use Rattle.pb_records.specs.declared.loading.Sink.{Ghosts as Sink}
use Rattle.pb_reply.specs.Replies.{Answer}
use Rattle.pb_reply.specs.Writing.{IsCutShort, Writer, writer}
use Rattle.pb_reply.specs.declared.status.Fault.{Fault}
use Rattle.pb_reply.specs.declared.status.Fault.TheVariants as fault
use Rattle.pb_run.specs.Folders.{AddsEntry, ReportsOn, ReportsOnFirst}
use Rattle.pb_run.specs.declared.listing.Listing.{Listing}

-- One of these reports was written, whole and with nothing else, and has this status; nothing failed, and the writer was
-- flushed after the last write, and where the report is written as lines then alone.
pub record IsReported (json : Bool) (is_report : Answer FolderStatus → Type 0) (status : FolderStatus)
    (old new : Writer) : Type 0 where
  pub report : Answer FolderStatus
  pub of_folder : is_report report
  pub text : Appends old.holds new.holds report.text
  pub ends : status ≡ report.status
  pub flushed : new.counts.flushed_at ≡ new.counts.writes
  pub once : json ≡ false → IsFlushed old.counts new.counts
  pub calm : new.counts.failures ≡ old.counts.failures

-- A front of one of these reports was written, with nothing else, and nothing failed.
pub record IsLeftOff (is_report : Answer FolderStatus → Type 0) (old new : Writer) : Type 0 where
  pub report : Answer FolderStatus
  pub of_folder : is_report report
  pub front : AppendsFront old.holds new.holds report.text
  pub calm : new.counts.failures ≡ old.counts.failures

-- Of which reports a front may have been written where the run ends early: of the whole report, or as JSON of one on the
-- first elections.
abbrev pub IsBegun : Bool → (Answer FolderStatus → Type 0) → (Answer FolderStatus → Type 0) → Answer FolderStatus → Type 0
IsBegun json reports on_first report = reports report ⊎ ((json ≡ true) × on_first report)

-- Out of memory: nothing was written, or as JSON a front of such a report.
abbrev pub IsOutOfMemory : {W : Type 0} → Bool → Sink W → (Answer FolderStatus → Type 0) → W → W → Type 0
IsOutOfMemory json sink on_first old new =
    (new ≡ old) ⊎ ((json ≡ true) × IsLeftOff on_first (writer sink old) (writer sink new))

-- Ahead of the rest of a report this was written of it: nothing, where it is written as lines.
pub record IsAhead {W : Type 0} (sink : Sink W) (json : Bool) (is_report : Answer FolderStatus → Type 0)
    (rest : Answer FolderStatus) (old new : W) : Type 0 where
  pub written : Text
  pub of_folder : is_report (record { text = written ++ rest.text; status = rest.status })
  pub ahead : Appends (sink.holds old) (sink.holds new) written
  pub calm : (sink.counts new).failures ≡ (sink.counts old).failures
  pub nothing : json ≡ false → (written ≡ []) × (new ≡ old)

-- the text of a report so far was written out of it, and this is the rest
pub record IsWrittenOut {W : Type 0} (sink : Sink W) (p rest : Progress) (old new : W) : Type 0 where
  pub as_json : rest.as_json ≡ p.as_json
  pub mode : rest.mode ≡ p.mode
  pub taken : (entries : List EntryFiles) (written : Text) → HasTaken p entries written
      → HasTaken rest entries (written ++ p.text)
  pub all : Appends (sink.holds old) (sink.holds new) p.text
  pub calm : (sink.counts new).failures ≡ (sink.counts old).failures

-- The files of one name were taken into a report, and as JSON its text so far was written out.
pub record HasTakenEntry {S I W : Type 0} (hands : S → S → Text → I → Type 0) (delivers : I → I → Delivery → Type 0)
    (sink : Sink W) (json : Bool) (folder : Text) (l : Listing) (name : Text) (p rest : Progress) (files files' : S)
    (out out' : W) : Type 0 where
  pub more : Progress
  pub adds : AddsEntry hands delivers folder l name files files' p more
  pub lines : json ≡ false → (rest ≡ more) × (out' ≡ out)
  pub objects : json ≡ true → IsWrittenOut sink more rest out out'

-- The same, but a front of that text was written, and the writer failed.
pub record HasFailedToWrite {S I W : Type 0} (hands : S → S → Text → I → Type 0) (delivers : I → I → Delivery → Type 0)
    (sink : Sink W) (folder : Text) (l : Listing) (name : Text) (p : Progress) (files files' : S) (out out' : W)
    : Type 0 where
  pub more : Progress
  pub adds : AddsEntry hands delivers folder l name files files' p more
  pub front : AppendsFront (sink.holds out) (sink.holds out') more.text
  pub failed : Rises (sink.counts out).failures (sink.counts out').failures

-- how a call ends that does so
pub record TakesEntry {S I W : Type 0} (hands : S → S → Text → I → Type 0) (delivers : I → I → Delivery → Type 0)
    (sink : Sink W) (json : Bool) (folder : Text) (l : Listing) (name : Text) (p : Progress)
    (result : Result Progress Fault) (files files' : S) (out out' : W) : Type 0 where
  pub taken : IfOk result (λ rest. HasTakenEntry hands delivers sink json folder l name p rest files files' out out')
  pub cut_short : IsErrOf result fault.Write
      → (json ≡ true) × HasFailedToWrite hands delivers sink folder l name p files files' out out'
  pub untouched : IsErrOf result fault.Memory → out' ≡ out

-- How a call ends that writes what comes ahead of the rest of a report, and answers that rest.
pub record WritesAhead {S I W : Type 0} (hands : S → S → Text → I → Type 0) (delivers : I → I → Delivery → Type 0)
    (sink : Sink W) (json : Bool) (m : Mode) (folder : Text) (l : Listing) (result : Result (Answer FolderStatus) Fault)
    (files files' : S) (out out' : W) : Type 0 where
  pub ahead : IfOk result (λ rest. IsAhead sink json (ReportsOn hands delivers json m folder l files files') rest out out')
  pub cut_short : IsErrOf result fault.Write
      → (json ≡ true) × IsCutShort (ReportsOnFirst hands delivers json m folder l files) (writer sink out) (writer sink out')
  pub out_of_memory : IsErrOf result fault.Memory
      → IsOutOfMemory json sink (ReportsOnFirst hands delivers json m folder l files) out out'

-- How a call ends that writes the whole report on what a folder lists.
pub record WritesReport {S I W : Type 0} (hands : S → S → Text → I → Type 0) (delivers : I → I → Delivery → Type 0)
    (sink : Sink W) (json : Bool) (m : Mode) (folder : Text) (l : Listing) (result : Result FolderStatus Fault)
    (files files' : S) (out out' : W) : Type 0 where
  pub reported : IfOk result (λ status. IsReported json (ReportsOn hands delivers json m folder l files files') status
      (writer sink out) (writer sink out'))
  pub cut_short : IsErrOf result fault.Write
      → IsCutShort (IsBegun json (ReportsOn hands delivers json m folder l files files')
      (ReportsOnFirst hands delivers json m folder l files)) (writer sink out) (writer sink out')
  pub out_of_memory : IsErrOf result fault.Memory
      → IsOutOfMemory json sink (ReportsOnFirst hands delivers json m folder l files) out out'
