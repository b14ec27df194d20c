-- The answer on the inputs of a page in their turn.
use Rattle.std.proofs.Common.{◌≡◌, Bool, List, Option, ap, subst}
use Rattle.std.specs.Prelude.{IfSome, Ok, Err, Result, Some, None}
use Rattle.std.specs.Result.{IsErr, IsErrAnd}
use Rattle.pb_election.specs.Instance.{Instance}
use Rattle.pb_records.specs.Loading.{Delivery}
use Rattle.pb_records.specs.Loading as delivery
use Rattle.pb_cohesion.specs.declared.Mode.{Mode}
use Rattle.pb_reply.specs.Inputs.{InTurn, Stated, StatesElection}
use Rattle.pb_reply.specs.Turns.{FileTurn, Turn}
use Rattle.pb_reply.specs.Replies.{Answer, answer_of}
use Rattle.pb_reply.specs.Inside.Taking.{AuditsOutcome, Gives, IfTaken, or_refusal}
use Rattle.pb_reply.specs.declared.unanswered.Unanswered.{Unanswered}
use Rattle.pb_reply.specs.declared.unanswered.Unanswered.TheVariants as unanswered
use Rattle.pb_reply.specs.declared.status.Status.{Status}
use Rattle.pb_page.specs.InTurn.{ReadsPage}
use Rattle.pb_page.specs.Sums.{files_of, sums_of}
use Rattle.pb_page.specs.Taken.{RendersTold, TellsCertificate}
use Rattle.pb_words.specs.declared.language.Language.{Language}
use Rattle.pb_page.specs.declared.telling.PageTold.{PageTold}
use Rattle.pb_page.proofs.Pages.{certificate-refused, election-refused, outcome-refused, page-answered}

pub ended-at-election : (m : Mode) (l : Language) (election : Turn) (outcome : FileTurn)
    (certificate : Turn) (why : Unanswered) → IfTaken {A = Instance} (Err why) (Gives StatesElection election)
    → outcome None → certificate None
    → IfSome (or_refusal answer_of (Err why)) (ReadsPage m l election outcome certificate)
ended-at-election m l election outcome certificate (unanswered.Refused r) given same untouched = record {
  of_election = given.delivery;
  of_outcome = None;
  of_certificate = delivery.Read;
  answers = election-refused m l given.delivery None delivery.Read r given.stating;
  election_delivered = given.delivered;
  outcome_delivered = same;
  certificate_delivered = untouched;
}
ended-at-election m l election outcome certificate unanswered.Memory given same untouched = tt

pub ended-at-outcome : (m : Mode) (l : Language) (election : Turn) (outcome : FileTurn)
    (certificate : Turn) (d : Delivery) (o : Option Delivery) (e : Instance) (why : Unanswered) → election (Some d)
    → StatesElection d (Ok e) → outcome (Some o)
    → IfTaken {A = List Bool} (Err why) (AuditsOutcome e o) → certificate None
    → IfSome (or_refusal answer_of (Err why)) (ReadsPage m l election outcome certificate)
ended-at-outcome m l election outcome certificate d o e (unanswered.Refused r) delivered given loaded taken untouched =
    record {
      of_election = d;
      of_outcome = o;
      of_certificate = delivery.Read;
      answers = outcome-refused m l d o delivery.Read e r given taken;
      election_delivered = delivered;
      outcome_delivered = loaded;
      certificate_delivered =
          subst
          (λ (w : Stated (List Bool)). InTurn w (λ marks. certificate (Some delivery.Read)) (certificate None))
          taken.is untouched;
    }
ended-at-outcome m l election outcome certificate d o e unanswered.Memory delivered given loaded taken untouched = tt

pub ended-at-certificate : (m : Mode) (l : Language) (election : Turn) (outcome : FileTurn)
    (certificate : Turn) (d : Delivery) (o : Option Delivery) (f : Delivery) (e : Instance) (w : List Bool)
    (why : Unanswered) → election (Some d) → StatesElection d (Ok e) → outcome (Some o)
    → AuditsOutcome e o (Ok w) → certificate (Some f) → IfTaken {A = PageTold} (Err why) (TellsCertificate m e w f)
    → IfSome (or_refusal answer_of (Err why)) (ReadsPage m l election outcome certificate)
ended-at-certificate m l election outcome certificate d o f e w (unanswered.Refused r) delivered given loaded taken read states =
    record {
      of_election = d;
      of_outcome = o;
      of_certificate = f;
      answers = certificate-refused m l d o f e w r given taken states;
      election_delivered = delivered;
      outcome_delivered = loaded;
      certificate_delivered =
          subst (λ (s : Stated (List Bool)). InTurn s (λ marks. certificate (Some f)) (certificate None))
          taken.is read;
    }
ended-at-certificate m l election outcome certificate d o f e w unanswered.Memory delivered given loaded taken read states =
    tt

-- all are accepted
pub answered : (m : Mode) (l : Language) (election : Turn) (outcome : FileTurn) (certificate : Turn)
    (d : Delivery) (o : Option Delivery) (f : Delivery) (e : Instance) (w : List Bool) (t : PageTold) (a : Answer Status)
    → election (Some d) → StatesElection d (Ok e) → outcome (Some o)
    → AuditsOutcome e o (Ok w) → certificate (Some f) → TellsCertificate m e w f (Ok t) → t.told.style.language ≡ l
    → RendersTold t (sums_of (files_of d o (Some f))) a → ReadsPage m l election outcome certificate a
answered m l election outcome certificate d o f e w t a delivered given loaded taken read tells language renders =
    record {
      of_election = d;
      of_outcome = o;
      of_certificate = f;
      answers = page-answered m l d o f e w t a given taken tells language renders;
      election_delivered = delivered;
      outcome_delivered = loaded;
      certificate_delivered =
          subst (λ (s : Stated (List Bool)). InTurn s (λ marks. certificate (Some f)) (certificate None))
          taken.is read;
    }

-- an error of which one value alone can be told is that value
pub err-is : {T E : Type 0} (P : E → Type 0) (r : Result T E) (e : E) → ((f : E) → P f → f ≡ e)
    → IsErr r × IsErrAnd r P → r ≡ Err e
err-is P (Ok x) e only h = absurd h.1
err-is P (Err f) e only h = ap Err (only f h.1)
