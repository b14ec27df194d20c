-- Whole runs: which task the words ask for, what is written, and how a run ends.
use Rattle.std.specs.Prelude.{◌≡◌, ◌⊎◌, Bool, ℕ, List, [], Option, Some, None, Result, Ok, Err, true}
use Rattle.clap.specs.Words.{takes}
use Rattle.pb_audit.specs.InTurn.{ReadsElection}
use Rattle.pb_audit.specs.declared.total.FolderStatus.{FolderStatus}
use Rattle.pb_command.specs.Commands.{pbaudit}
use Rattle.pb_command.specs.Tasks.{Asked, TaskOf, value_fault}
use Rattle.pb_command.specs.Tasks as task
use Rattle.pb_cohesion.specs.declared.Mode.{Mode}
use Rattle.pb_records.specs.Loading.{Delivery}
use Rattle.pb_records.specs.Records.{Text}
use Rattle.pb_records.specs.declared.loading.Sink.{Ghosts as Sink}
use Rattle.pb_reply.specs.Replies.{Answer, TellsReply, answer_as, refused}
use Rattle.pb_reply.specs.Turns.{turn}
use Rattle.pb_reply.specs.Writing.{IsCutShort, IsWritten, writer}
use Rattle.pb_reply.specs.declared.answer.Format.TheVariants.{Lines}
use Rattle.pb_reply.specs.declared.status.Fault.{Fault}
use Rattle.pb_reply.specs.declared.status.Fault.TheVariants as fault
use Rattle.pb_reply.specs.declared.status.Status.{Status}
use Rattle.pb_run.specs.Asking.{AnswersAt, Places, format_of, order}
use Rattle.pb_run.specs.Endings.{HasStatus, WritesNothingUnlessHelp}
use Rattle.pb_run.specs.Folders.{ReportsFirst, ReportsFolder, unlisted}
use Rattle.pb_run.specs.Listings.{Entry}
use Rattle.pb_run.specs.Reporting.{IsBegun, IsOutOfMemory, IsReported}
use Rattle.pb_run.specs.declared.asking.Ask.{Ask}
use Rattle.pb_run.specs.declared.end.End.{End}
use Rattle.pb_run.specs.declared.end.End.TheVariants.{Answered, Reported, Faulted}

-- The answer of a task on an election: to what is asked of the files at its paths, and standard input is left alone; or
-- on the election on standard input, and no file is handed out.
abbrev pub AnswersOrder : {S I R : Type 0} → (S → S → Text → I → Type 0) → (I → I → Delivery → Type 0)
    → (R → R → Delivery → Type 0) → Option (Places × Ask) → S → S → R → R → Answer Status → Type 0
AnswersOrder hands delivers reads (Some it) old new input input' a =
    AnswersAt hands delivers it.0 it.1 old new a × (input' ≡ input)
AnswersOrder hands delivers reads None old new input input' a =
    TellsReply Lines (ReadsElection (turn reads input input')) a × (new ≡ old)

abbrev pub AnswersTask : {S I R : Type 0} → (S → S → Text → I → Type 0) → (I → I → Delivery → Type 0)
    → (R → R → Delivery → Type 0) → Asked → S → S → R → R → Answer Status → Type 0
AnswersTask hands delivers reads it = AnswersOrder hands delivers reads (order it)

-- What is told beside an answer may hand out files again.
abbrev pub Once : {S A : Type 0} → (S → A → Type 0) → A → Type 0
Once {S} answers a = (then : S) × answers then a

-- How a task ends: one of these answers was written, whole or cut short; or memory ran out, and nothing was written.
abbrev pub Ends : {W : Type 0} → Sink W → (Answer Status → Type 0) → End → W → W → Type 0
Ends sink answers (Answered s) old new = IsWritten answers s (writer sink old) (writer sink new)
Ends sink answers (Faulted fault.Write) old new = IsCutShort answers (writer sink old) (writer sink new)
Ends sink answers (Faulted fault.Memory) old new = new ≡ old
Ends sink answers _ old new = ⊥

-- How a task on a folder ends: with its report, whole or begun; or where the folder can't be listed, with the refusal.
abbrev pub EndsReporting : {W : Type 0} → Sink W → Bool → (Answer Status → Type 0) → (Answer FolderStatus → Type 0)
    → (Answer FolderStatus → Type 0) → End → W → W → Type 0
EndsReporting sink json refusals reports on_first (Answered s) old new =
    IsWritten refusals s (writer sink old) (writer sink new)
EndsReporting sink json refusals reports on_first (Reported s) old new =
    IsReported json reports s (writer sink old) (writer sink new)
EndsReporting sink json refusals reports on_first (Faulted fault.Write) old new =
    IsCutShort refusals (writer sink old) (writer sink new)
    ⊎ IsCutShort (IsBegun json reports on_first) (writer sink old) (writer sink new)
EndsReporting sink json refusals reports on_first (Faulted fault.Memory) old new =
    IsOutOfMemory json sink on_first old new
EndsReporting sink json refusals reports on_first _ old new = ⊥

abbrev pub end_of : Result End Fault → End
end_of (Ok end) = end
end_of (Err fault) = Faulted fault

-- the report on a folder, as JSON or as lines; one that can't be listed is refused, likewise
abbrev pub EndsFolder : {S I W : Type 0} → (S → S → Text → List Entry → Type 0) → (S → S → Text → I → Type 0)
    → (I → I → Delivery → Type 0) → Sink W → Bool → Mode → Text → End → S → S → W → W → Type 0
EndsFolder lists hands delivers sink json m folder end files files' =
    EndsReporting sink json (λ a. a ≡ answer_as (format_of json) (refused unlisted))
    (Once (λ then. ReportsFolder lists hands delivers json m folder files then))
    (ReportsFirst lists hands delivers json m folder files) end

abbrev pub EndsTask : {S I R W : Type 0} → (S → S → Text → List Entry → Type 0) → (S → S → Text → I → Type 0)
    → (I → I → Delivery → Type 0) → (R → R → Delivery → Type 0) → Sink W → Asked → End → S → S → R → R → W → W → Type 0
EndsTask lists hands delivers reads sink (task.folder f m json) end files files' input input' out out' =
    EndsFolder lists hands delivers sink json m f end files files' out out' × (input' ≡ input)
EndsTask lists hands delivers reads sink it end files files' input input' out out' =
    Ends sink (Once (λ then. AnswersTask hands delivers reads it files then input input')) end out out'

-- Nothing was done: no file handed out, nothing read, nothing written. It is so where the words are no line of a command,
-- where they ask for help, and where memory ran out before.
pub record IsIdle {S R W : Type 0} (words : List Text) (end : End) (files files' : S) (input input' : R) (out out' : W)
    : Type 0 where
  pub files_left : files' ≡ files
  pub input_left : input' ≡ input
  pub out_left : out' ≡ out
  pub understood : takes pbaudit words ≡ true → value_fault (TaskOf words) ≡ [] → end ≡ Faulted fault.Memory

-- the task that the words ask for was done
pub record IsDone {S I R W : Type 0} (lists : S → S → Text → List Entry → Type 0) (hands : S → S → Text → I → Type 0)
    (delivers : I → I → Delivery → Type 0) (reads : R → R → Delivery → Type 0) (sink : Sink W) (words : List Text)
    (end : End) (files files' : S) (input input' : R) (out out' : W) : Type 0 where
  pub it : Asked
  pub asked_for : Some it ≡ TaskOf words
  pub ends : EndsTask lists hands delivers reads sink it end files files' input input' out out'

-- A run from its words to its exit status: what the words ask for is done, or nothing is; then help may be written.
pub record Runs {S I R W : Type 0} (lists : S → S → Text → List Entry → Type 0) (hands : S → S → Text → I → Type 0)
    (delivers : I → I → Delivery → Type 0) (reads : R → R → Delivery → Type 0) (sink : Sink W) (words : List Text)
    (status : ℕ) (files files' : S) (input input' : R) (out out' : W) : Type 0 where
  pub end : End
  pub answered : W
  pub does : IsDone lists hands delivers reads sink words end files files' input input' out answered
      ⊎ IsIdle words end files files' input input' out answered
  pub told : WritesNothingUnlessHelp end answered out'
  pub ends_with : HasStatus end status
