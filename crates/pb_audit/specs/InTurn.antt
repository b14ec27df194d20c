-- What each command answers on its inputs in their turn.
use Rattle.std.specs.Prelude.{Bool, List, Option, Some, None}
use Rattle.pb_election.specs.Instance.{Instance}
use Rattle.pb_records.specs.Loading.{Delivery}
use Rattle.pb_cohesion.specs.declared.Mode.{Mode}
use Rattle.pb_reply.specs.Inputs.{InTurn, Stated, audited}
use Rattle.pb_reply.specs.Replies.{Answer, Reply}
use Rattle.pb_reply.specs.Turns.{FileTurn, Turn}
use Rattle.pb_reply.specs.declared.status.Status.{Status}
use Rattle.pb_audit.specs.Answers.{AnswersAudit, AnswersElection, AnswersTidy, AuditRules, price_rules, refutation_rules, violation_rules}

-- the reply on an election
pub record ReadsElection (election : Turn) (r : Reply) : Type 0 where
  pub delivery : Delivery
  pub delivered : election (Some delivery)
  pub answers : AnswersElection delivery r

-- the answer on an election and a price certificate, which is taken where the election is accepted
pub record ReadsTidy (election certificate : Turn) (answer : Answer Status) : Type 0 where
  pub of_election : Delivery
  pub of_certificate : Delivery
  pub answers : AnswersTidy of_election of_certificate answer
  pub election_delivered : election (Some of_election)
  pub certificate_delivered : InTurn answers.e (λ instance. certificate (Some of_certificate)) (certificate None)

-- An input was taken where the election and the outcome were accepted, and else it was left alone.
abbrev pub AfterOutcome : Stated Instance → Option (Stated (List Bool)) → Type 0 → Type 0 → Type 0
AfterOutcome election outcome taken left =
    InTurn election (λ e. InTurn (audited e outcome) (λ w. taken) left) left

-- The reply on an election, an outcome file where one is given, and a certificate. Each is taken where those before it
-- are accepted, and else it is left alone.
pub record ReadsAudit {A : Type 0} (rules : AuditRules A) (election : Turn) (outcome : FileTurn) (certificate : Turn)
    (r : Reply) : Type 0 where
  pub of_election : Delivery
  pub of_outcome : Option Delivery
  pub of_certificate : Delivery
  pub answers : AnswersAudit rules of_election of_outcome of_certificate r
  pub election_delivered : election (Some of_election)
  pub outcome_delivered : InTurn answers.e (λ instance. outcome (Some of_outcome)) (outcome None)
  pub certificate_delivered : AfterOutcome answers.e answers.o (certificate (Some of_certificate)) (certificate None)

abbrev pub ReadsPrices : Mode → Turn → FileTurn → Turn → Reply → Type 0
ReadsPrices m election outcome certificate r = ReadsAudit (price_rules m) election outcome certificate r

abbrev pub ReadsViolation : Turn → FileTurn → Turn → Reply → Type 0
ReadsViolation election outcome certificate r = ReadsAudit violation_rules election outcome certificate r

abbrev pub ReadsRefutation : Bool → Turn → FileTurn → Turn → Reply → Type 0
ReadsRefutation stable election outcome certificate r =
    ReadsAudit (refutation_rules stable) election outcome certificate r
