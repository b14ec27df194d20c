-- The page about groups on its inputs in their turn.
use Rattle.std.proofs.Common.{◌≡◌, ◌∙◌, Bool, List, Option, refl, subst, sym}
use Rattle.std.specs.Prelude.{IfSome, Ok, Err, Some, None}
use Rattle.pb_election.specs.Instance.{Instance}
use Rattle.pb_records.specs.Loading.{Delivery}
use Rattle.pb_certificate.specs.declared.violations.measure.Measure.{Measure}
use Rattle.pb_figures.specs.declared.told.CertificateFigures.{CertificateFigures}
use Rattle.pb_page.specs.declared.telling.PageTold.{PageTold}
use Rattle.pb_price_parts.specs.Rows.{ListsProjects}
use Rattle.pb_reply.proofs.Groups.{groups-promise}
use Rattle.pb_reply.specs.Inputs.{Stated, StatesElection}
use Rattle.pb_reply.specs.Inside.Taking.{AuditsOutcome, Gives, IfTaken, or_refusal}
use Rattle.pb_reply.specs.Promises.{GroupsPromise}
use Rattle.pb_reply.specs.Replies.{Answer, answer_of, refused}
use Rattle.pb_reply.specs.Turns.{FileTurn, Turn}
use Rattle.pb_reply.specs.declared.status.Status.{Status}
use Rattle.pb_reply.specs.declared.unanswered.Unanswered.{Unanswered}
use Rattle.pb_reply.specs.declared.unanswered.Unanswered.TheVariants as unanswered
use Rattle.pb_words.specs.declared.language.Language.{Language}
use Rattle.pb_page.specs.Groups.{GroupsPageOnOutcome, IsGroupsPage, ReadsGroupsPage}
use Rattle.pb_page.specs.Sums.{files_of, sums_of}
use Rattle.pb_page.specs.Taken.{RendersTold, TellsOfGroups}

pub groups-ended-at-election : (m : Measure) (l : Language) (election : Turn) (outcome : FileTurn) (why : Unanswered)
    → IfTaken {A = Instance} (Err why) (Gives StatesElection election) → outcome None
    → IfSome (or_refusal answer_of (Err why)) (ReadsGroupsPage m l election outcome)
groups-ended-at-election m l election outcome (unanswered.Refused r) given left = record {
  of_election = given.delivery;
  of_outcome = None;
  answers = record { e = Err r; o = None; election_states = given.stating; outcome_states = tt; out = refl };
  election_delivered = given.delivered;
  outcome_delivered = left;
}
groups-ended-at-election m l election outcome unanswered.Memory given left = tt

pub groups-ended-at-outcome : (m : Measure) (l : Language) (election : Turn) (outcome : FileTurn) (d : Delivery)
    (o : Option Delivery) (e : Instance) (why : Unanswered) → election (Some d) → StatesElection d (Ok e) → outcome (Some o)
    → IfTaken {A = List Bool} (Err why) (AuditsOutcome e o)
    → IfSome (or_refusal answer_of (Err why)) (ReadsGroupsPage m l election outcome)
groups-ended-at-outcome m l election outcome d o e (unanswered.Refused r) delivered states loaded taken = record {
  of_election = d;
  of_outcome = o;
  answers = record {
    e = Ok e;
    o = taken.file;
    election_states = states;
    outcome_states = taken.given;
    out = subst
        (λ (s : Stated (List Bool)). GroupsPageOnOutcome m l (files_of d o None) e s (answer_of (refused r)))
        taken.is refl;
  };
  election_delivered = delivered;
  outcome_delivered = loaded;
}
groups-ended-at-outcome m l election outcome d o e unanswered.Memory delivered states loaded taken = tt

-- the page, by what is told and rendered
groups-page : (m : Measure) (l : Language) (files : List Delivery) (e : Instance) (w : List Bool) (t : PageTold)
    (a : Answer Status) → TellsOfGroups m e w t → t.told.style.language ≡ l → RendersTold t (sums_of files) a
    → IsGroupsPage m l files e w a
groups-page m l files e w t a tells language renders =
    let ended = renders.status ∙ tells.1 in
    record {
      told = t.told;
      pieces = renders.pieces;
      tells = tells.0;
      in_language = language;
      answers = renders.answers;
      sums = renders.has_sums;
      projects = subst (λ (f : CertificateFigures). ListsProjects t.told.mode f renders.pieces) tells.0.found renders.projects;
      text = renders.text;
      status = ended;
      promises = subst (λ (s : Status). GroupsPromise m s e w) (sym ended) (groups-promise m e w _ tells.0.groups);
    }

-- both are accepted
pub groups-answered : (m : Measure) (l : Language) (election : Turn) (outcome : FileTurn) (d : Delivery)
    (o : Option Delivery) (e : Instance) (w : List Bool) (t : PageTold) (a : Answer Status) → election (Some d)
    → StatesElection d (Ok e) → outcome (Some o) → AuditsOutcome e o (Ok w) → TellsOfGroups m e w t
    → t.told.style.language ≡ l → RendersTold t (sums_of (files_of d o None)) a → ReadsGroupsPage m l election outcome a
groups-answered m l election outcome d o e w t a delivered states loaded taken tells language renders = record {
  of_election = d;
  of_outcome = o;
  answers = record {
    e = Ok e;
    o = taken.file;
    election_states = states;
    outcome_states = taken.given;
    out = subst (λ (s : Stated (List Bool)). GroupsPageOnOutcome m l (files_of d o None) e s a) taken.is
        (groups-page m l (files_of d o None) e w t a tells language renders);
  };
  election_delivered = delivered;
  outcome_delivered = loaded;
}
