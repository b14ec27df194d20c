-- What a page answers on its inputs in their turn.
use Rattle.std.specs.Prelude.{Option, Some, None}
use Rattle.pb_records.specs.Loading.{Delivery}
use Rattle.pb_cohesion.specs.declared.Mode.{Mode}
use Rattle.pb_reply.specs.Inputs.{InTurn, audited}
use Rattle.pb_reply.specs.Replies.{Answer}
use Rattle.pb_reply.specs.Turns.{FileTurn, Turn}
use Rattle.pb_reply.specs.declared.status.Status.{Status}
use Rattle.pb_words.specs.declared.language.Language.{Language}
use Rattle.pb_page.specs.Answers.{AnswersPage}

-- The answer on an election, an outcome file where one is given, and a certificate. Each is taken where those before it
-- are accepted, and else it is left alone.
pub record ReadsPage (m : Mode) (language : Language) (election : Turn) (outcome : FileTurn) (certificate : Turn)
    (a : Answer Status) : Type 0 where
  pub of_election : Delivery
  pub of_outcome : Option Delivery
  pub of_certificate : Delivery
  pub answers : AnswersPage m language of_election of_outcome of_certificate a
  pub election_delivered : election (Some of_election)
  pub outcome_delivered : InTurn answers.e (λ e. outcome (Some of_outcome)) (outcome None)
  pub certificate_delivered : InTurn answers.e
      (λ e. InTurn (audited e answers.o) (λ w. certificate (Some of_certificate)) (certificate None))
      (certificate None)
