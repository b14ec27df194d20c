-- Each question has one answer on what is delivered of its inputs.
use Rattle.std.proofs.Common.{◌≡◌, Bool, List, Option, refl, subst}
use Rattle.std.specs.Prelude.{IfOk, Ok, Err}
use Rattle.pb_election.specs.Instance.{Instance}
use Rattle.pb_records.specs.Loading.{Delivery}
use Rattle.pb_cohesion.specs.declared.Mode.{Mode}
use Rattle.pb_reply.specs.Inputs.{FilesState, InTurn, Stated, StatesElection, StatesFile, StatesOutcome, StatesPrices, audited}
use Rattle.pb_reply.specs.Replies.{Answer, Reply, TellsReply}
use Rattle.pb_reply.specs.Turns.{gives, gives_file}
use Rattle.pb_input.specs.declared.InputName.TheVariants as name
use Rattle.pb_reply.specs.declared.answer.Format.{Format}
use Rattle.pb_reply.specs.declared.status.Status.{Status}
use Rattle.pb_audit.specs.Answers.{AnswersAudit, AnswersElection, AnswersTidy, AuditRules, OfAccepted, audit_reply, price_rules, refutation_rules, violation_rules}
use Rattle.pb_audit.specs.Both.{AnswersBoth, Both, ReadsBoth, StatesBoth, both_rules}
use Rattle.pb_audit.specs.Explained.{explained_rules}
use Rattle.pb_audit.specs.Figured.{AnswersFigured, FigureRules, FiguresPromise, ReadsFigured}
use Rattle.pb_audit.specs.Groups.{explained_groups_rules, group_margin_rules, groups_rules}
use Rattle.pb_audit.specs.InTurn.{AfterOutcome, ReadsAudit, ReadsElection, ReadsTidy}
use Rattle.pb_audit.specs.Margins.{margin_rules}
use Rattle.pb_audit.specs.OneAnswer.{JustOne}
use Rattle.pb_audit.specs.Questions.{Answers}
use Rattle.pb_audit.specs.declared.question.Question.{Question}
use Rattle.pb_audit.specs.declared.question.Question.TheVariants as question
use Rattle.pb_audit.proofs.FallingShort.{groups_promise}
use Rattle.pb_audit.proofs.OneAnswer.{both-one, figured-one, margins-reply-one, price-reply-one, read-one, refutation-reply-one, tells-one, tidy-one, violation-reply-one}
use Rattle.pb_audit.proofs.OneExplained.{explained-one}

-- what says the same of the same things
one-of : {A : Type 0} (P Q : A → Type 0) → ((a : A) → P a → Q a) → ((a : A) → Q a → P a) → JustOne P → JustOne Q
one-of P Q to from h = record {
  one = (h.one.0, to h.one.0 h.one.1);
  no_other = λ a b x y. h.no_other a b (from a x) (from b y);
}

one-told : (format : Format) (P Q : Reply → Type 0) → ((r : Reply) → P r → Q r) → ((r : Reply) → Q r → P r) → JustOne P
    → JustOne (TellsReply format Q)
one-told format P Q to from h = tells-one format Q (one-of P Q to from h)

-- an input whose turn came, or not
came : {A : Type 0} {D : Type 0} (s : Stated A) (d : D) → InTurn s (λ a. d ≡ d) (Unit {0})
came (Ok a) d = refl
came (Err r) d = tt

came-after : {D : Type 0} (e : Stated Instance) (o : Option (Stated (List Bool))) (d : D)
    → AfterOutcome e o (d ≡ d) (Unit {0})
came-after (Ok i) o d = came (audited i o) d
came-after (Err r) o d = tt

-- what is stated of one delivery is stated of another that is the same where its turn came
stated-of : {A D : Type 0} (s : Stated A) (states : D → Type 0) (d f : D) → IfOk s (λ a. states d)
    → InTurn s (λ a. d ≡ f) (Unit {0}) → IfOk s (λ a. states f)
stated-of (Ok a) states d f given is = subst states is given
stated-of (Err r) states d f given is = tt

-- An audit.

audit-of : {A : Type 0} (rules : AuditRules A) (election : Delivery) (outcome : Option Delivery)
    (certificate : Delivery) (r : Reply)
    → ReadsAudit rules (gives election) (gives_file outcome) (gives certificate) r
    → AnswersAudit rules election outcome certificate r
audit-of {A} rules election outcome certificate r a =
    go a.answers.e a.answers.given a.answers.out a.answers.promised a.outcome_delivered a.certificate_delivered
  where
    go : (e : Stated Instance)
        → FilesState rules.states a.of_election a.of_outcome a.of_certificate e a.answers.o a.answers.c
        → r ≡ audit_reply rules.reply e a.answers.o a.answers.c
        → OfAccepted (rules.promises r.status) e a.answers.o a.answers.c
        → InTurn e (λ i. a.of_outcome ≡ outcome) (Unit {0})
        → AfterOutcome e a.answers.o (a.of_certificate ≡ certificate) (Unit {0})
        → AnswersAudit rules election outcome certificate r
    go (Ok i) given out promised outcome_is certificate_is = record {
      e = Ok i;
      o = a.answers.o;
      c = a.answers.c;
      given = record {
        election_states = subst (λ (d : Delivery). StatesElection d (Ok i)) a.election_delivered given.election_states;
        outcome_states =
            subst (λ (d : Option Delivery). StatesFile (StatesOutcome i) d a.answers.o) outcome_is given.outcome_states;
        certificate_states =
            stated-of (audited i a.answers.o) (λ (d : Delivery). rules.states i d a.answers.c) a.of_certificate
            certificate given.certificate_states certificate_is;
      };
      out = out;
      promised = promised;
    }
    go (Err why) given out promised outcome_is certificate_is = record {
      e = Err why;
      o = a.answers.o;
      c = a.answers.c;
      given = record {
        election_states =
            subst (λ (d : Delivery). StatesElection d (Err why)) a.election_delivered given.election_states;
        outcome_states = tt;
        certificate_states = tt;
      };
      out = out;
      promised = promised;
    }

audit-in-turn : {A : Type 0} (rules : AuditRules A) (election : Delivery) (outcome : Option Delivery)
    (certificate : Delivery) (r : Reply) → AnswersAudit rules election outcome certificate r
    → ReadsAudit rules (gives election) (gives_file outcome) (gives certificate) r
audit-in-turn rules election outcome certificate r a = record {
  of_election = election;
  of_outcome = outcome;
  of_certificate = certificate;
  answers = a;
  election_delivered = refl;
  outcome_delivered = came a.e outcome;
  certificate_delivered = came-after a.e a.o certificate;
}

audit-told : {A : Type 0} (format : Format) (rules : AuditRules A) (election : Delivery) (outcome : Option Delivery)
    (certificate : Delivery) → JustOne (AnswersAudit rules election outcome certificate)
    → JustOne (TellsReply format (ReadsAudit rules (gives election) (gives_file outcome) (gives certificate)))
audit-told format rules election outcome certificate h =
    one-told format (AnswersAudit rules election outcome certificate)
    (ReadsAudit rules (gives election) (gives_file outcome) (gives certificate))
    (audit-in-turn rules election outcome certificate) (audit-of rules election outcome certificate) h

-- An election alone.

read-told : (format : Format) (election : Delivery) → JustOne (TellsReply format (ReadsElection (gives election)))
read-told format election =
    one-told format (AnswersElection election) (ReadsElection (gives election))
    (λ r a. record { delivery = election; delivered = refl; answers = a })
    (λ r a. subst (λ (d : Delivery). AnswersElection d r) a.delivered a.answers) (read-one election)

-- An election and its outcome.

figured-of : (rules : FigureRules) (election : Delivery) (outcome : Option Delivery) (r : Reply)
    → ReadsFigured rules (gives election) (gives_file outcome) r → AnswersFigured rules election outcome r
figured-of rules election outcome r a = record {
  e = a.answers.e;
  o = a.answers.o;
  xs = a.answers.xs;
  election_states =
      subst (λ (d : Delivery). StatesElection d a.answers.e) a.election_delivered a.answers.election_states;
  outcome_states = go a.answers.e a.answers.outcome_states a.outcome_delivered;
  figured = a.answers.figured;
  out = a.answers.out;
}
  where
    go : (e : Stated Instance) → IfOk e (λ i. StatesFile (StatesOutcome i) a.of_outcome a.answers.o)
        → InTurn e (λ i. a.of_outcome ≡ outcome) (Unit {0})
        → IfOk e (λ i. StatesFile (StatesOutcome i) outcome a.answers.o)
    go (Ok i) given is = subst (λ (d : Option Delivery). StatesFile (StatesOutcome i) d a.answers.o) is given
    go (Err r) given is = tt

figured-told : (format : Format) (rules : FigureRules) → FiguresPromise rules → (election : Delivery) (outcome : Option Delivery)
    → JustOne (TellsReply format (ReadsFigured rules (gives election) (gives_file outcome)))
figured-told format rules each election outcome =
    one-told format (AnswersFigured rules election outcome) (ReadsFigured rules (gives election) (gives_file outcome))
    (λ r a. record {
      of_election = election;
      of_outcome = outcome;
      answers = a;
      election_delivered = refl;
      outcome_delivered = came a.e outcome;
    }) (figured-of rules election outcome) (figured-one rules each election outcome)

-- The canonical text.

tidy-of : (election certificate : Delivery) (answer : Answer Status)
    → ReadsTidy (gives election) (gives certificate) answer → AnswersTidy election certificate answer
tidy-of election certificate answer a = record {
  e = a.answers.e;
  p = a.answers.p;
  election_states =
      subst (λ (d : Delivery). StatesElection d a.answers.e) a.election_delivered a.answers.election_states;
  certificate_states = go a.answers.e a.answers.certificate_states a.certificate_delivered;
  out = a.answers.out;
}
  where
    go : (e : Stated Instance) → IfOk e (λ i. StatesPrices name.Certificate i a.of_certificate a.answers.p)
        → InTurn e (λ i. a.of_certificate ≡ certificate) (Unit {0})
        → IfOk e (λ i. StatesPrices name.Certificate i certificate a.answers.p)
    go (Ok i) given is = subst (λ (d : Delivery). StatesPrices name.Certificate i d a.answers.p) is given
    go (Err r) given is = tt

tidy-in-turn-one : (election certificate : Delivery) → JustOne (ReadsTidy (gives election) (gives certificate))
tidy-in-turn-one election certificate =
    one-of (AnswersTidy election certificate) (ReadsTidy (gives election) (gives certificate))
    (λ answer a. record {
      of_election = election;
      of_certificate = certificate;
      answers = a;
      election_delivered = refl;
      certificate_delivered = came a.e certificate;
    }) (tidy-of election certificate) (tidy-one election certificate)

-- Both certificates.

-- what states both with one violation certificate does so with another that is the same where its turn came
both-stated-of : (violation other : Delivery) (e : Instance) (prices : Delivery) (c : Stated Both)
    → StatesBoth violation e prices c → InTurn c (λ both. violation ≡ other) (Unit {0}) → StatesBoth other e prices c
both-stated-of violation other e prices (Ok both) given is =
    subst (λ (d : Delivery). StatesBoth d e prices (Ok both)) is given
both-stated-of violation other e prices (Err r) given is = given

abbrev with-violation : (m : Mode) (violation other : Delivery) (election : Delivery) (outcome : Option Delivery)
    (prices : Delivery) (r : Reply) (a : AnswersAudit (both_rules m violation) election outcome prices r)
    → AfterOutcome a.e a.o (InTurn a.c (λ both. violation ≡ other) (Unit {0})) (Unit {0})
    → AnswersAudit (both_rules m other) election outcome prices r
with-violation m violation other election outcome prices r a is = record {
  e = a.e;
  o = a.o;
  c = a.c;
  given = record {
    election_states = a.given.election_states;
    outcome_states = a.given.outcome_states;
    certificate_states = go a.e a.given.certificate_states is;
  };
  out = a.out;
  promised = a.promised;
}
  where
    by : (i : Instance) (w : Stated (List Bool)) → IfOk w (λ marks. StatesBoth violation i prices a.c)
        → InTurn w (λ marks. InTurn a.c (λ both. violation ≡ other) (Unit {0})) (Unit {0})
        → IfOk w (λ marks. StatesBoth other i prices a.c)
    by i (Ok marks) given is = both-stated-of violation other i prices a.c given is
    by i (Err why) given is = tt

    go : (e : Stated Instance) → IfOk e (λ i. IfOk (audited i a.o) (λ w. StatesBoth violation i prices a.c))
        → AfterOutcome e a.o (InTurn a.c (λ both. violation ≡ other) (Unit {0})) (Unit {0})
        → IfOk e (λ i. IfOk (audited i a.o) (λ w. StatesBoth other i prices a.c))
    go (Ok i) given is = by i (audited i a.o) given is
    go (Err why) given is = tt

both-of : (m : Mode) (election : Delivery) (outcome : Option Delivery) (prices violation : Delivery) (r : Reply)
    → ReadsBoth m (gives election) (gives_file outcome) (gives prices) (gives violation) r
    → AnswersBoth m election outcome prices violation r
both-of m election outcome prices violation r a =
    audit-of (both_rules m violation) election outcome prices r
    (record {
      of_election = a.reads.of_election;
      of_outcome = a.reads.of_outcome;
      of_certificate = a.reads.of_certificate;
      answers = with-violation m a.of_violation violation a.reads.of_election a.reads.of_outcome
          a.reads.of_certificate r a.reads.answers a.violation_delivered;
      election_delivered = a.reads.election_delivered;
      outcome_delivered = a.reads.outcome_delivered;
      certificate_delivered = a.reads.certificate_delivered;
    })

both-came : (e : Stated Instance) (o : Option (Stated (List Bool))) (c : Stated Both) (violation : Delivery)
    → AfterOutcome e o (InTurn c (λ both. violation ≡ violation) (Unit {0})) (Unit {0})
both-came (Ok i) o c violation = by (audited i o)
  where
    by : (w : Stated (List Bool))
        → InTurn w (λ marks. InTurn c (λ both. violation ≡ violation) (Unit {0})) (Unit {0})
    by (Ok marks) = came c violation
    by (Err why) = tt
both-came (Err why) o c violation = tt

both-told : (format : Format) (m : Mode) (election : Delivery) (outcome : Option Delivery) (prices violation : Delivery)
    → JustOne (TellsReply format (ReadsBoth m (gives election) (gives_file outcome) (gives prices) (gives violation)))
unfolding audit-in-turn
both-told format m election outcome prices violation =
    one-told format (AnswersBoth m election outcome prices violation)
    (ReadsBoth m (gives election) (gives_file outcome) (gives prices) (gives violation))
    (λ r a. record {
      of_violation = violation;
      reads = audit-in-turn (both_rules m violation) election outcome prices r a;
      violation_delivered = both-came a.e a.o a.c violation;
    }) (both-of m election outcome prices violation) (both-one m election outcome prices violation)

pub question-one : (format : Format) (q : Question) (election : Delivery) (outcome : Option Delivery) (certificate violation : Delivery)
    → JustOne (Answers format q (gives election) (gives_file outcome) (gives certificate) (gives violation))
question-one format question.Read election outcome certificate violation =
    one-of (TellsReply format (ReadsElection (gives election))) _ (λ a x. (x, tt, tt, tt)) (λ a x. x.0) (read-told format election)
question-one format (question.Groups k) election outcome certificate violation =
    one-of (TellsReply format (ReadsFigured (groups_rules k) (gives election) (gives_file outcome))) _
    (λ a x. (x, tt, tt)) (λ a x. x.0) (figured-told format (groups_rules k) (groups_promise k) election outcome)
question-one format (question.ExplainGroups k) election outcome certificate violation =
    one-of (TellsReply format (ReadsFigured (explained_groups_rules k) (gives election) (gives_file outcome))) _
    (λ a x. (x, tt, tt)) (λ a x. x.0)
    (figured-told format (explained_groups_rules k) (groups_promise k) election outcome)
question-one format (question.GroupMargins k) election outcome certificate violation =
    one-of (TellsReply format (ReadsFigured (group_margin_rules k) (gives election) (gives_file outcome))) _
    (λ a x. (x, tt, tt)) (λ a x. x.0)
    (figured-told format (group_margin_rules k) (λ e w xs figures. refl) election outcome)
question-one format (question.Prices m) election outcome certificate violation =
    one-of (TellsReply format (ReadsAudit (price_rules m) (gives election) (gives_file outcome) (gives certificate))) _
    (λ a x. (x, tt)) (λ a x. x.0)
    (audit-told format (price_rules m) election outcome certificate (price-reply-one m election outcome certificate))
question-one format question.Violation election outcome certificate violation =
    one-of (TellsReply format (ReadsAudit violation_rules (gives election) (gives_file outcome) (gives certificate))) _
    (λ a x. (x, tt)) (λ a x. x.0)
    (audit-told format violation_rules election outcome certificate (violation-reply-one election outcome certificate))
question-one format (question.Refutation stable) election outcome certificate violation =
    one-of (TellsReply format (ReadsAudit (refutation_rules stable) (gives election) (gives_file outcome) (gives certificate))) _
    (λ a x. (x, tt)) (λ a x. x.0)
    (audit-told format (refutation_rules stable) election outcome certificate
    (refutation-reply-one stable election outcome certificate))
question-one format (question.Both m) election outcome certificate violation =
    one-of (TellsReply format (ReadsBoth m (gives election) (gives_file outcome) (gives certificate) (gives violation))) _
    (λ a x. x) (λ a x. x) (both-told format m election outcome certificate violation)
question-one format (question.Explain m) election outcome certificate violation =
    one-of (TellsReply format (ReadsAudit (explained_rules m) (gives election) (gives_file outcome) (gives certificate))) _
    (λ a x. (x, tt)) (λ a x. x.0)
    (audit-told format (explained_rules m) election outcome certificate (explained-one m election outcome certificate))
question-one format question.Margins election outcome certificate violation =
    one-of (TellsReply format (ReadsAudit margin_rules (gives election) (gives_file outcome) (gives certificate))) _
    (λ a x. (x, tt)) (λ a x. x.0)
    (audit-told format margin_rules election outcome certificate (margins-reply-one election outcome certificate))
question-one format question.Tidy election outcome certificate violation =
    one-of (ReadsTidy (gives election) (gives certificate)) _ (λ a x. (x, tt, tt)) (λ a x. x.0)
    (tidy-in-turn-one election certificate)
