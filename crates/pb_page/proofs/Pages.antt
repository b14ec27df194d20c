-- The answer on the inputs of a page.
use Rattle.std.proofs.Common.{◌≡◌, ◌∙◌, ℕ, Bool, List, Option, refl, subst, sym}
use Rattle.std.specs.Prelude.{IfOk, IfSome, IsSomeAnd, Ok, Err, None, Some}
use Rattle.pb_election.specs.Instance.{Instance}
use Rattle.pb_records.specs.Loading.{Delivery}
use Rattle.pb_cohesion.specs.declared.Mode.{Mode}
use Rattle.pb_reply.specs.Inputs.{Stated, StatesElection}
use Rattle.pb_reply.specs.Replies.{Answer, answer_of, refused}
use Rattle.pb_reply.specs.Inside.Taking.{AuditsOutcome}
use Rattle.pb_input.specs.declared.InputRefusal.{InputRefusal}
use Rattle.pb_reply.specs.declared.status.Status.{Status}
use Rattle.pb_reply.specs.Certificates.{StatesCertificate, certificate_status}
use Rattle.pb_reply.specs.Promises.{CertificatePromises}
use Rattle.pb_reply.proofs.Promises.{certificate_promises}
use Rattle.pb_markup.specs.Pieces.{Piece, rendering}
use Rattle.pb_markup.specs.Shown.{shows_of}
use Rattle.pb_page.specs.Answers.{AnswersPage, HasAnswer, IsPage, PageOnOutcome}
use Rattle.pb_price_parts.specs.Rows.{ListsProjects}
use Rattle.pb_page.specs.Sums.{HasInOrder, files_of, sums_of}
use Rattle.pb_page.specs.Taken.{RendersTold, TellsCertificate}
use Rattle.pb_words.specs.declared.language.Language.{Language}
use Rattle.pb_page.specs.declared.telling.PageTold.{PageTold}

-- where the election is refused, the others may state anything
abbrev pub election-refused : (m : Mode) (l : Language) (election : Delivery) (outcome : Option Delivery)
    (certificate : Delivery) (r : InputRefusal) → StatesElection election (Err r)
    → AnswersPage m l election outcome certificate (answer_of (refused r))
election-refused m l election outcome certificate r given = record {
  e = Err r;
  o = None;
  c = Err r;
  given = record { election_states = given; outcome_states = tt; certificate_states = tt };
  out = refl;
}

-- where the outcome is, the certificate may
abbrev pub outcome-refused : (m : Mode) (l : Language) (election : Delivery) (outcome : Option Delivery)
    (certificate : Delivery) (e : Instance) (r : InputRefusal) → StatesElection election (Ok e)
    → AuditsOutcome e outcome (Err r) → AnswersPage m l election outcome certificate (answer_of (refused r))
outcome-refused m l election outcome certificate e r given taken = record {
  e = Ok e;
  o = taken.file;
  c = Err r;
  given = record {
    election_states = given;
    outcome_states = taken.given;
    certificate_states =
        subst (λ (o : Stated (List Bool)). IfOk o (λ w. StatesCertificate e certificate (Err r))) taken.is tt;
  };
  out =
      subst (λ (o : Stated (List Bool)). PageOnOutcome m l (files_of election outcome (Some certificate)) e o (Err r) (answer_of (refused r))) taken.is refl;
}

-- the certificate is refused
abbrev pub certificate-refused : (m : Mode) (l : Language) (election : Delivery) (outcome : Option Delivery)
    (certificate : Delivery) (e : Instance) (w : List Bool) (r : InputRefusal) → StatesElection election (Ok e)
    → AuditsOutcome e outcome (Ok w) → StatesCertificate e certificate (Err r)
    → AnswersPage m l election outcome certificate (answer_of (refused r))
certificate-refused m l election outcome certificate e w r given taken states = record {
  e = Ok e;
  o = taken.file;
  c = Err r;
  given = record {
    election_states = given;
    outcome_states = taken.given;
    certificate_states =
        subst (λ (o : Stated (List Bool)). IfOk o (λ marks. StatesCertificate e certificate (Err r))) taken.is states;
  };
  out =
      subst (λ (o : Stated (List Bool)). PageOnOutcome m l (files_of election outcome (Some certificate)) e o (Err r) (answer_of (refused r))) taken.is refl;
}

-- all are accepted
abbrev pub page-answered : (m : Mode) (l : Language) (election : Delivery) (outcome : Option Delivery)
    (certificate : Delivery) (e : Instance) (w : List Bool) (t : PageTold) (a : Answer Status)
    → StatesElection election (Ok e) → AuditsOutcome e outcome (Ok w)
    → TellsCertificate m e w certificate (Ok t) → t.told.style.language ≡ l
    → RendersTold t (sums_of (files_of election outcome (Some certificate))) a
    → AnswersPage m l election outcome certificate a
page-answered m l election outcome certificate e w t a given taken tells language renders = record {
  e = Ok e;
  o = taken.file;
  c = Ok tells.0;
  given = record {
    election_states = given;
    outcome_states = taken.given;
    certificate_states =
        subst (λ (o : Stated (List Bool)). IfOk o (λ marks. StatesCertificate e certificate (Ok tells.0))) taken.is
        tells.1;
  };
  out = subst (λ (o : Stated (List Bool)). PageOnOutcome m l (files_of election outcome (Some certificate)) e o (Ok tells.0) a) taken.is page;
}
  where
    ends : a.status ≡ certificate_status m e w tells.0
    ends = renders.status ∙ tells.3

    page : IsPage m l (files_of election outcome (Some certificate)) e w tells.0 a
    page = record {
      told = t.told;
      pieces = renders.pieces;
      tells = tells.2;
      in_language = language;
      answers = renders.answers;
      sums = renders.has_sums;
      projects = renders.projects;
      text = renders.text;
      status = ends;
      promises =
          subst (λ (s : Status). CertificatePromises m s e w tells.0) (sym ends)
          (certificate_promises m e w certificate tells.0 tells.1);
    }

-- the text of a page that was made is one that tells this
pub page-renders : (t : PageTold) (sums : List (List ℕ)) (page : Option (List Piece)) (a : Answer Status)
    → IfSome page HasAnswer → IfSome page (HasInOrder sums) → IfSome page (ListsProjects t.told.mode t.told.found)
    → IsSomeAnd page (λ pieces. a.text ≡ rendering (shows_of t.told) pieces) → a.status ≡ t.status
    → RendersTold t sums a
page-renders t sums None a answers has projects text ends = absurd text
page-renders t sums (Some pieces) a answers has projects text ends =
    record { pieces = pieces; answers = answers; has_sums = has; projects = projects; text = text; status = ends }
