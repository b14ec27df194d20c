-- What a task asks of the files at its paths, and the answer on what these files deliver.
use Rattle.std.specs.Prelude.{◌≡◌, if◌then◌else◌, Bool, [], Option, Some, None, option_map}
use Rattle.pb_audit.specs.Questions.{Answers}
use Rattle.pb_audit.specs.declared.question.Question.{Question}
use Rattle.pb_audit.specs.declared.question.Question.TheVariants as question
use Rattle.pb_command.specs.Tasks.{Asked, OutcomePaths, Paths}
use Rattle.pb_command.specs.Tasks as task
use Rattle.pb_page.specs.Groups.{ReadsGroupsPage}
use Rattle.pb_page.specs.InTurn.{ReadsPage}
use Rattle.pb_records.specs.Loading.{Delivery}
use Rattle.pb_records.specs.Records.{Text}
use Rattle.pb_reply.specs.Replies.{Answer}
use Rattle.pb_reply.specs.Turns.{FileTurn, Turn, file_turn, turn}
use Rattle.pb_reply.specs.declared.answer.Format.{Format}
use Rattle.pb_reply.specs.declared.answer.Format.TheVariants.{Json, Lines}
use Rattle.pb_reply.specs.declared.status.Status.{Status}
use Rattle.pb_run.specs.declared.asking.Ask.{Ask}
use Rattle.pb_run.specs.declared.asking.Ask.TheVariants as ask
use Rattle.pb_run.specs.declared.asking.HandedOut.{HandedOut}
use Rattle.pb_run.specs.declared.asking.Paths as held

-- the paths of files: an election, an outcome file where one is named, a certificate, and the violation certificate
-- beside prices; the path of a file that isn't asked for is empty
pub record Places : Type 0 where
  pub election : Text
  pub outcome : Option Text
  pub certificate : Text
  pub violation : Text

abbrev pub alone : Text → Places
alone e = record { election = e; outcome = None; certificate = []; violation = [] }

abbrev pub with_outcome : OutcomePaths → Places
with_outcome p = record { election = p.election; outcome = p.outcome; certificate = []; violation = [] }

abbrev pub beside : Paths → Text → Places
beside p v = record { election = p.election; outcome = p.outcome; certificate = p.certificate; violation = v }

-- as what an answer is written
abbrev pub format_of : Bool → Format
format_of json = if json then Json else Lines

abbrev pub questioned : Paths → Question → Option (Places × Ask)
questioned p q = Some (beside p [], ask.Question q (format_of p.json))

-- a question on an election and its outcome
abbrev pub of_outcome : OutcomePaths → Question → Places × Ask
of_outcome p q = (with_outcome p, ask.Question q (format_of p.json))

-- the paths, as the program holds them
abbrev pub places_of : held.Paths → Places
places_of p = record {
  election = p.election.now;
  outcome = option_map (λ o. o.now) p.outcome;
  certificate = p.certificate.now;
  violation = p.violation.now;
}

-- the table of tasks: what each asks of the files at which paths; nothing where it is on standard input or on a folder
abbrev pub order : Asked → Option (Places × Ask)
order (task.read None json) = None
order (task.read (Some e) json) = Some (alone e, ask.Question question.Read (format_of json))
order (task.groups p None) = None
order (task.groups p (Some k)) = Some (of_outcome p (question.Groups k))
order (task.prices p m) = questioned p (question.Prices m)
order (task.violation p) = questioned p question.Violation
order (task.refutation p stable) = questioned p (question.Refutation stable)
order (task.both p v m) = Some (beside p v, ask.Question (question.Both m) (format_of p.json))
order (task.explain p m) = questioned p (question.Explain m)
order (task.explain_groups p None) = None
order (task.explain_groups p (Some k)) = Some (of_outcome p (question.ExplainGroups k))
order (task.page p m None) = None
order (task.page p m (Some l)) = Some (beside p [], ask.Page m l)
order (task.groups_page p (Some k) (Some l)) = Some (with_outcome p, ask.GroupsPage k l)
order (task.groups_page p _ _) = None
order (task.margins p) = questioned p question.Margins
order (task.group_margins p None) = None
order (task.group_margins p (Some k)) = Some (of_outcome p (question.GroupMargins k))
order (task.unclear k) = None
order (task.tidy p) = questioned p question.Tidy
order (task.folder f m json) = None

-- the outcome file was handed out, where one is named
abbrev pub HandsOutcome : {S I : Type 0} → (S → S → Text → I → Type 0) → Option Text → S → S → Option I → Type 0
HandsOutcome hands None old new None = new ≡ old
HandsOutcome hands (Some path) old new (Some file) = hands old new path file
HandsOutcome hands _ old new _ = ⊥

-- The files at these paths were handed out, and no other. Here `hands` says that one file was, by what the files were
-- before and are after.
pub record HandsAll {S I : Type 0} (hands : S → S → Text → I → Type 0) (places : Places) (old new : S)
    (files : HandedOut I) : Type 0 where
  pub after_election : S
  pub after_outcome : S
  pub after_certificate : S
  pub election : hands old after_election places.election files.election
  pub outcome : HandsOutcome hands places.outcome after_election after_outcome files.outcome
  pub certificate : hands after_outcome after_certificate places.certificate files.certificate
  pub violation : hands after_certificate new places.violation files.violation

-- the answer to what is asked, on inputs in their turn
abbrev pub AnswersAsk : Ask → Turn → FileTurn → Turn → Turn → Answer Status → Type 0
AnswersAsk (ask.Question q format) election outcome certificate violation a =
    Answers format q election outcome certificate violation a
AnswersAsk (ask.Page m l) election outcome certificate violation a =
    ReadsPage m l election outcome certificate a × violation None
AnswersAsk (ask.GroupsPage k l) election outcome certificate violation a =
    ReadsGroupsPage k l election outcome a × certificate None × violation None

-- the same of files before and after, each of which was opened in its turn or left alone
abbrev pub AnswersOn : {I : Type 0} → (I → I → Delivery → Type 0) → Ask → HandedOut I → HandedOut I → Answer Status → Type 0
AnswersOn delivers it old new a =
    AnswersAsk it (turn delivers old.election new.election) (file_turn delivers old.outcome new.outcome)
    (turn delivers old.certificate new.certificate) (turn delivers old.violation new.violation) a

-- The answer to what is asked of the files at these paths. Here `delivers` says that a file delivered something.
pub record AnswersAt {S I : Type 0} (hands : S → S → Text → I → Type 0) (delivers : I → I → Delivery → Type 0)
    (places : Places) (it : Ask) (old new : S) (a : Answer Status) : Type 0 where
  pub before : HandedOut I
  pub after : HandedOut I
  pub handed : HandsAll hands places old new before
  pub answers : AnswersOn delivers it before after a
