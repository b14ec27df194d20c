-- What is answered on inputs in their turn, where less is known of what comes of them.
use Rattle.std.proofs.Common.{Bool, List, Option}
use Rattle.std.specs.Prelude.{Ok, Err, Some, None}
use Rattle.pb_election.specs.Instance.{Instance}
use Rattle.pb_cohesion.specs.declared.Mode.{Mode}
use Rattle.pb_reply.specs.Inputs.{InTurn, Stated, audited}
use Rattle.pb_reply.specs.Replies.{Answer, Reply, TellsReply}
use Rattle.pb_reply.specs.Turns.{FileTurn, Turn}
use Rattle.pb_reply.specs.declared.answer.Format.{Format}
use Rattle.pb_reply.specs.declared.status.Status.{Status}
use Rattle.pb_audit.specs.Answers.{AuditRules, price_rules, refutation_rules, violation_rules}
use Rattle.pb_audit.specs.Both.{ReadsBoth, both_rules}
use Rattle.pb_audit.specs.Explained.{explained_rules}
use Rattle.pb_audit.specs.Figured.{FigureRules, ReadsFigured}
use Rattle.pb_audit.specs.Groups.{explained_groups_rules, group_margin_rules, groups_rules}
use Rattle.pb_audit.specs.InTurn.{AfterOutcome, ReadsAudit, ReadsElection, ReadsTidy}
use Rattle.pb_audit.specs.Margins.{margin_rules}
use Rattle.pb_audit.specs.Questions.{Answers}
use Rattle.pb_audit.specs.declared.question.Question.{Question}
use Rattle.pb_audit.specs.declared.question.Question.TheVariants as question

-- whatever comes of the one comes of the other
abbrev pub Implies : {D : Type 0} → (Option D → Type 0) → (Option D → Type 0) → Type 0
Implies {D} t u = (d : Option D) → t d → u d

pub in-turn-weaker : {A : Type 0} (s : Stated A) (taken also left still : Type 0) → (taken → also) → (left → still)
    → InTurn s (λ a. taken) left → InTurn s (λ a. also) still
in-turn-weaker (Ok a) taken also left still to from h = to h
in-turn-weaker (Err r) taken also left still to from h = from h

pub after-weaker : (e : Stated Instance) (o : Option (Stated (List Bool))) (taken also left still : Type 0)
    → (taken → also) → (left → still) → AfterOutcome e o taken left → AfterOutcome e o also still
after-weaker (Ok i) o taken also left still to from h = in-turn-weaker (audited i o) taken also left still to from h
after-weaker (Err r) o taken also left still to from h = from h

tells-weaker : (format : Format) (P Q : Reply → Type 0) → ((r : Reply) → P r → Q r) → (a : Answer Status)
    → TellsReply format P a → TellsReply format Q a
tells-weaker format P Q to a told = record { reply = told.reply; of_inputs = to told.reply told.of_inputs; out = told.out }

abbrev audit-weaker : {A : Type 0} (rules : AuditRules A) (e f : Turn) (o p : FileTurn) (c d : Turn) → Implies e f
    → Implies o p → Implies c d → (r : Reply) → ReadsAudit rules e o c r → ReadsAudit rules f p d r
audit-weaker rules e f o p c d elections outcomes certificates r a = record {
  of_election = a.of_election;
  of_outcome = a.of_outcome;
  of_certificate = a.of_certificate;
  answers = a.answers;
  election_delivered = elections _ a.election_delivered;
  outcome_delivered =
      in-turn-weaker a.answers.e _ _ _ _ (outcomes (Some a.of_outcome)) (outcomes None) a.outcome_delivered;
  certificate_delivered =
      after-weaker a.answers.e a.answers.o _ _ _ _ (certificates (Some a.of_certificate)) (certificates None)
      a.certificate_delivered;
}

both-weaker : (m : Mode) (e f : Turn) (o p : FileTurn) (c d v u : Turn) → Implies e f → Implies o p → Implies c d
    → Implies v u → (r : Reply) → ReadsBoth m e o c v r → ReadsBoth m f p d u r
both-weaker m e f o p c d v u elections outcomes prices violations r a = record {
  of_violation = a.of_violation;
  reads = audit-weaker (both_rules m a.of_violation) e f o p c d elections outcomes prices r a.reads;
  violation_delivered =
      after-weaker a.reads.answers.e a.reads.answers.o _ _ _ _
      (in-turn-weaker a.reads.answers.c _ _ _ _ (violations (Some a.of_violation)) (violations None))
      (violations None) a.violation_delivered;
}

tidy-weaker : (e f c d : Turn) → Implies e f → Implies c d → (a : Answer Status) → ReadsTidy e c a → ReadsTidy f d a
tidy-weaker e f c d elections certificates answer a = record {
  of_election = a.of_election;
  of_certificate = a.of_certificate;
  answers = a.answers;
  election_delivered = elections _ a.election_delivered;
  certificate_delivered =
      in-turn-weaker a.answers.e _ _ _ _ (certificates (Some a.of_certificate)) (certificates None)
      a.certificate_delivered;
}

figured-weaker : (rules : FigureRules) (e f : Turn) (o p : FileTurn) → Implies e f → Implies o p → (r : Reply)
    → ReadsFigured rules e o r → ReadsFigured rules f p r
figured-weaker rules e f o p elections outcomes r a = record {
  of_election = a.of_election;
  of_outcome = a.of_outcome;
  answers = a.answers;
  election_delivered = elections _ a.election_delivered;
  outcome_delivered =
      in-turn-weaker a.answers.e _ _ _ _ (outcomes (Some a.of_outcome)) (outcomes None) a.outcome_delivered;
}

audit-told-weaker : {A : Type 0} (format : Format) (rules : AuditRules A) (e f : Turn) (o p : FileTurn) (c d : Turn) → Implies e f
    → Implies o p → Implies c d → (a : Answer Status) → TellsReply format (ReadsAudit rules e o c) a
    → TellsReply format (ReadsAudit rules f p d) a
audit-told-weaker format rules e f o p c d elections outcomes certificates =
    tells-weaker format _ _ (audit-weaker rules e f o p c d elections outcomes certificates)

pub answers-weaker : (format : Format) (q : Question) (e f : Turn) (o p : FileTurn) (c d v u : Turn) → Implies e f → Implies o p
    → Implies c d → Implies v u → (a : Answer Status) → Answers format q e o c v a → Answers format q f p d u a
answers-weaker format question.Read e f o p c d v u es os cs vs a h = (
  tells-weaker format (ReadsElection e) (ReadsElection f)
      (λ r x. record { delivery = x.delivery; delivered = es _ x.delivered; answers = x.answers }) a h.0,
  os None h.1,
  cs None h.2,
  vs None h.3,
)
answers-weaker format (question.Groups k) e f o p c d v u es os cs vs a h =
    (tells-weaker format _ _ (figured-weaker (groups_rules k) e f o p es os) a h.0, cs None h.1, vs None h.2)
answers-weaker format (question.ExplainGroups k) e f o p c d v u es os cs vs a h =
    (tells-weaker format _ _ (figured-weaker (explained_groups_rules k) e f o p es os) a h.0, cs None h.1, vs None h.2)
answers-weaker format (question.GroupMargins k) e f o p c d v u es os cs vs a h =
    (tells-weaker format _ _ (figured-weaker (group_margin_rules k) e f o p es os) a h.0, cs None h.1, vs None h.2)
answers-weaker format (question.Prices m) e f o p c d v u es os cs vs a h =
    (audit-told-weaker format (price_rules m) e f o p c d es os cs a h.0, vs None h.1)
answers-weaker format question.Violation e f o p c d v u es os cs vs a h =
    (audit-told-weaker format violation_rules e f o p c d es os cs a h.0, vs None h.1)
answers-weaker format (question.Refutation stable) e f o p c d v u es os cs vs a h =
    (audit-told-weaker format (refutation_rules stable) e f o p c d es os cs a h.0, vs None h.1)
answers-weaker format (question.Both m) e f o p c d v u es os cs vs a h =
    tells-weaker format _ _ (both-weaker m e f o p c d v u es os cs vs) a h
answers-weaker format (question.Explain m) e f o p c d v u es os cs vs a h =
    (audit-told-weaker format (explained_rules m) e f o p c d es os cs a h.0, vs None h.1)
answers-weaker format question.Margins e f o p c d v u es os cs vs a h =
    (audit-told-weaker format margin_rules e f o p c d es os cs a h.0, vs None h.1)
answers-weaker format question.Tidy e f o p c d v u es os cs vs a h =
    (tidy-weaker e f c d es cs a h.0, os None h.1, vs None h.2)
