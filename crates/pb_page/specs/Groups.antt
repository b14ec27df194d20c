-- What a page answers about groups that fall short, without a certificate.
use Rattle.std.specs.Prelude.{◌≡◌, Bool, List, Ok, Err, IfOk, Option, Some, None, map, string_bytes}
use Rattle.pb_records.specs.Loading.{Delivery}
use Rattle.pb_election.specs.Instance.{Instance, all_projects, cost_of, voters}
use Rattle.pb_certificate.specs.declared.violations.measure.Measure.{Measure}
use Rattle.pb_cohesion.specs.Closest.{AreAllFigures}
use Rattle.pb_cohesion.specs.Outcome.{total}
use Rattle.pb_cohesion.specs.Shown.{shown}
use Rattle.pb_reply.specs.Inputs.{InTurn, Stated, StatesElection, StatesFile, StatesOutcome, audited}
use Rattle.pb_reply.specs.Lines.{groups_line}
use Rattle.pb_reply.specs.Promises.{GroupsPromise}
use Rattle.pb_reply.specs.Replies.{Answer, answer_of, groups_status, refused}
use Rattle.pb_reply.specs.Turns.{FileTurn, Turn}
use Rattle.pb_reply.specs.declared.status.Status.{Status}
use Rattle.pb_markup.specs.Pieces.{Piece, rendering}
use Rattle.pb_markup.specs.Shown.{shows_of}
use Rattle.pb_price_parts.specs.Rows.{ListsGroups}
use Rattle.pb_case.specs.Shown.{ShowsLine}
use Rattle.pb_figures.specs.Told.{verdict_on_groups}
use Rattle.pb_figures.specs.declared.short_groups.ShortFigures.{ShortFigures}
use Rattle.pb_figures.specs.declared.told.CertificateFigures.TheVariants as found
use Rattle.pb_figures.specs.declared.told.Told.{Told}
use Rattle.pb_words.specs.declared.language.Language.{Language}
use Rattle.pb_page.specs.Answers.{HasAnswer}
use Rattle.pb_page.specs.Sums.{HasInOrder, files_of, sums_of}

-- What a page tells of groups by a measure: the line that the program prints, as it is shown, and for each unfunded
-- project with a supporter the figures of its group.
pub record TellsGroups (m : Measure) (e : Instance) (w : List Bool) (t : Told) : Type 0 where
  pub figures : ShortFigures
  pub found : t.found ≡ found.Groups figures
  pub line : ShowsLine (groups_line m e (verdict_on_groups figures)) (string_bytes t.line)
  pub groups : AreAllFigures m e w figures.groups.items
  pub measure : figures.measure ≡ m
  pub shown : figures.shown ≡ shown figures.groups.items
  pub costs : figures.costs.items ≡ map (cost_of e) (all_projects e)
  pub limit : figures.limit ≡ e.limit
  pub total : figures.funded ≡ total e w
  pub voters : figures.voters ≡ voters e

-- The page about groups, in a language: what the pieces show is what is told, the sums are those of these files, the
-- projects stand in their order, and the status is that of the answer on groups, with what this promises.
pub record IsGroupsPage (m : Measure) (language : Language) (files : List Delivery) (e : Instance) (w : List Bool)
    (a : Answer Status) : Type 0 where
  pub told : Told
  pub pieces : List Piece
  pub tells : TellsGroups m e w told
  pub in_language : told.style.language ≡ language
  pub answers : HasAnswer pieces
  pub sums : HasInOrder (sums_of files) pieces
  pub projects : ListsGroups tells.figures.groups.items pieces
  pub text : a.text ≡ rendering (shows_of told) pieces
  pub status : a.status ≡ groups_status (verdict_on_groups tells.figures)
  pub promises : GroupsPromise m a.status e w

-- the page, or the line of the first input that is refused
abbrev pub GroupsPageOnOutcome : Measure → Language → List Delivery → Instance → Stated (List Bool) → Answer Status
    → Type 0
GroupsPageOnOutcome m language files e (Err r) a = a ≡ answer_of (refused r)
GroupsPageOnOutcome m language files e (Ok w) a = IsGroupsPage m language files e w a

abbrev pub GroupsPageOf : Measure → Language → List Delivery → Stated Instance → Option (Stated (List Bool))
    → Answer Status → Type 0
GroupsPageOf m language files (Err r) o a = a ≡ answer_of (refused r)
GroupsPageOf m language files (Ok e) o a = GroupsPageOnOutcome m language files e (audited e o) a

-- The answer on an election and on an outcome file where one is given, from what is delivered of them.
pub record AnswersGroupsPage (m : Measure) (language : Language) (election : Delivery) (outcome : Option Delivery)
    (a : Answer Status) : Type 0 where
  pub e : Stated Instance
  pub o : Option (Stated (List Bool))
  pub election_states : StatesElection election e
  pub outcome_states : IfOk e (λ instance. StatesFile (StatesOutcome instance) outcome o)
  pub out : GroupsPageOf m language (files_of election outcome None) e o a

-- the same on inputs in their turn: the outcome file is taken where the election is accepted
pub record ReadsGroupsPage (m : Measure) (language : Language) (election : Turn) (outcome : FileTurn) (a : Answer Status)
    : Type 0 where
  pub of_election : Delivery
  pub of_outcome : Option Delivery
  pub answers : AnswersGroupsPage m language of_election of_outcome a
  pub election_delivered : election (Some of_election)
  pub outcome_delivered : InTurn answers.e (λ instance. outcome (Some of_outcome)) (outcome None)
