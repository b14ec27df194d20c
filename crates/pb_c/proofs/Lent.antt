-- What is answered on files in memory, by their bytes alone.
use Rattle.std.proofs.Common.{◌≡◌, ◌∙◌, Option, ap, refl}
use Rattle.std.specs.Prelude.{Some, None}
use Rattle.std.specs.Option.{option_map}
use Rattle.pb_records.specs.Loading.{Delivery}
use Rattle.pb_certificate.specs.declared.violations.measure.Measure.{Measure}
use Rattle.pb_cohesion.specs.declared.Mode.{Mode}
use Rattle.pb_reply.specs.Inside.Loaded.{lent}
use Rattle.pb_reply.specs.Replies.{Answer}
use Rattle.pb_reply.specs.Turns.{FileTurn, Turn, file_turn, gives, gives_file, lends, turn}
use Rattle.pb_reply.specs.declared.loaded.File.{File}
use Rattle.pb_reply.specs.declared.status.Status.{Status}
use Rattle.pb_words.specs.declared.language.Language.{Language}
use Rattle.pb_page.specs.Groups.{ReadsGroupsPage}
use Rattle.pb_page.specs.InTurn.{ReadsPage}
use Rattle.pb_audit.proofs.Weaker.{Implies, after-weaker, in-turn-weaker}

-- a file in memory gives what is delivered of it
pub file-gives : (old new : File) (d : Delivery) → lent old ≡ d → Implies (turn lends old new) (gives d)
file-gives old new d is (Some x) h = h ∙ is
file-gives old new d is None h = tt

pub given-file-gives : (old new : Option File) (d : Option Delivery) → option_map lent old ≡ d
    → Implies (file_turn lends old new) (gives_file d)
given-file-gives old new d is (Some x) h = by old new x h ∙ is
  where
    by : (f g : Option File) (y : Option Delivery) → file_turn lends f g (Some y) → y ≡ option_map lent f
    by None None None given = refl
    by None None (Some y) given = absurd given
    by None (Some g) y given = absurd given
    by (Some f) None y given = absurd given
    by (Some f) (Some g) None given = absurd given
    by (Some f) (Some g) (Some y) given = ap Some given
given-file-gives old new d is None h = tt

pub page-weaker : (m : Mode) (l : Language) (e f : Turn) (o p : FileTurn) (c d : Turn) → Implies e f → Implies o p
    → Implies c d → (a : Answer Status) → ReadsPage m l e o c a → ReadsPage m l f p d a
page-weaker m l e f o p c d elections outcomes certificates answer a = record {
  of_election = a.of_election;
  of_outcome = a.of_outcome;
  of_certificate = a.of_certificate;
  answers = a.answers;
  election_delivered = elections _ a.election_delivered;
  outcome_delivered =
      in-turn-weaker a.answers.e _ _ _ _ (outcomes (Some a.of_outcome)) (outcomes None) a.outcome_delivered;
  certificate_delivered =
      after-weaker a.answers.e a.answers.o _ _ _ _ (certificates (Some a.of_certificate)) (certificates None)
      a.certificate_delivered;
}

pub groups-page-weaker : (m : Measure) (l : Language) (e f : Turn) (o p : FileTurn) → Implies e f → Implies o p
    → (a : Answer Status) → ReadsGroupsPage m l e o a → ReadsGroupsPage m l f p a
groups-page-weaker m l e f o p elections outcomes answer a = record {
  of_election = a.of_election;
  of_outcome = a.of_outcome;
  answers = a.answers;
  election_delivered = elections _ a.election_delivered;
  outcome_delivered =
      in-turn-weaker a.answers.e _ _ _ _ (outcomes (Some a.of_outcome)) (outcomes None) a.outcome_delivered;
}
