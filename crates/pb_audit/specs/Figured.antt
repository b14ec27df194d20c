-- What is answered on an election and its outcome alone, by the figures of all projects: for each unfunded project with a
-- supporter the group that is shown.
use Rattle.std.specs.Prelude.{◌≡◌, Bool, List, IfOk, Option, Some, None}
use Rattle.pb_election.specs.Instance.{Instance}
use Rattle.pb_records.specs.Loading.{Delivery}
use Rattle.pb_certificate.specs.declared.violations.measure.Measure.{Measure}
use Rattle.pb_cohesion.specs.Closest.{AreAllFigures}
use Rattle.pb_cohesion.specs.declared.GroupFigures.{GroupFigures}
use Rattle.pb_reply.specs.Inputs.{InTurn, Stated, StatesElection, StatesFile, StatesOutcome, audited}
use Rattle.pb_reply.specs.Replies.{Reply, with_input}
use Rattle.pb_reply.specs.Turns.{FileTurn, Turn}
use Rattle.pb_reply.specs.declared.status.Status.{Status}

-- How groups are told: by which measure, the reply by the figures of all projects, and what the status of a reply
-- promises of the election and the outcome.
pub record FigureRules : Type 1 where
  pub measure : Measure
  pub reply : Instance → List Bool → List GroupFigures → Reply
  pub promises : Status → Instance → List Bool → Type 0

-- these are the figures of all projects, and the status of the reply promises what it says
pub record AreFigured (rules : FigureRules) (e : Instance) (w : List Bool) (xs : List GroupFigures) : Type 0 where
  pub figures : AreAllFigures rules.measure e w xs
  pub promised : rules.promises (rules.reply e w xs).status e w

-- a reply by such figures
pub record IsFiguredReply (rules : FigureRules) (e : Instance) (w : List Bool) (r : Reply) : Type 0 where
  pub xs : List GroupFigures
  pub figured : AreFigured rules e w xs
  pub out : r ≡ rules.reply e w xs

-- what holds of an election and an outcome that are accepted
abbrev pub OfOutcome : (Instance → List Bool → Type 0) → Stated Instance → Option (Stated (List Bool)) → Type 0
OfOutcome holds election outcome = IfOk election (λ e. IfOk (audited e outcome) (λ w. holds e w))

-- the reply on an election and an outcome
abbrev pub outcome_reply : (Instance → List Bool → Reply) → Stated Instance → Option (Stated (List Bool)) → Reply
outcome_reply reply election outcome =
    with_input election (λ e. with_input (audited e outcome) (λ w. reply e w))

-- The reply on an election and an outcome file where one is given, from what is delivered of them.
pub record AnswersFigured (rules : FigureRules) (election : Delivery) (outcome : Option Delivery)
    (r : Reply) : Type 0 where
  pub e : Stated Instance
  pub o : Option (Stated (List Bool))
  pub xs : List GroupFigures
  pub election_states : StatesElection election e
  pub outcome_states : IfOk e (λ instance. StatesFile (StatesOutcome instance) outcome o)
  pub figured : OfOutcome (λ e w. AreFigured rules e w xs) e o
  pub out : r ≡ outcome_reply (λ e w. rules.reply e w xs) e o

-- the same on inputs in their turn: the outcome file is taken where the election is accepted
pub record ReadsFigured (rules : FigureRules) (election : Turn) (outcome : FileTurn) (r : Reply) : Type 0 where
  pub of_election : Delivery
  pub of_outcome : Option Delivery
  pub answers : AnswersFigured rules of_election of_outcome r
  pub election_delivered : election (Some of_election)
  pub outcome_delivered : InTurn answers.e (λ instance. outcome (Some of_outcome)) (outcome None)

-- the status of each reply by the figures of all projects keeps what it promises
abbrev pub FiguresPromise : FigureRules → Type 0
FiguresPromise rules = (e : Instance) (w : List Bool) (xs : List GroupFigures) → AreAllFigures rules.measure e w xs
    → rules.promises (rules.reply e w xs).status e w
