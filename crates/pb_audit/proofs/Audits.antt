-- The answers on several inputs.
use Rattle.std.proofs.Common.{◌≡◌, ◌∙◌, ap, refl, subst, Bool, Option, List, arith}
use Rattle.std.specs.Prelude.{IfOk, IfSome, Result, Ok, Err, Some, None}
use Rattle.pb_election.specs.Instance.{Instance}
use Rattle.pb_records.specs.Loading.{Delivery}
use Rattle.pb_records.specs.Loading as delivery
use Rattle.pb_certificate.specs.Prices.{Prices}
use Rattle.pb_reply.specs.Replies.{Answer, Reply, answer_of, refused, with_input}
use Rattle.pb_audit.specs.Answers.{AnswersAudit, AuditRules, tidy_answer}
use Rattle.pb_reply.specs.Inputs.{InTurn, Stated, StatesElection, StatesPrices}
use Rattle.pb_input.specs.declared.InputName.TheVariants as name
use Rattle.pb_input.specs.declared.InputRefusal.{InputRefusal}
use Rattle.pb_audit.specs.InTurn.{ReadsAudit, ReadsTidy}
use Rattle.pb_reply.specs.Turns.{FileTurn, Turn}
use Rattle.pb_audit.specs.Inside.Certificates.{AnswersCertificate, IfTold, Promised, Tells, TidiesPrices}
use Rattle.pb_reply.specs.Inside.Taking.{AuditsOutcome, Gives, GivesOutcome, IfTaken, or_refusal, reply_why}
use Rattle.pb_reply.specs.declared.unanswered.Unanswered.{Unanswered}
use Rattle.pb_reply.specs.declared.unanswered.Unanswered.TheVariants as unanswered
use Rattle.pb_reply.specs.declared.status.Status.{Status}
use Rattle.pb_reply.specs.contracts.unanswered.UnansweredFromAllocError.TheImpl.{from_gives-value}
use Rattle.std.specs.Result.{IsErr, IsErrAnd}
use Rattle.std.specs.declared.alloc.AllocError.{AllocError}

-- What is told of some replies is told of others, where each of those is one of these.
pub told_weaker : {T : Type 0} (told : Reply → T) (P Q : Reply → Type 0) → ((r : Reply) → P r → Q r)
    → (work : Result T Unanswered) → IfTold told P work → IfTold told Q work
told_weaker told P Q each work is = grind arith

-- What the work came to is told of one of these replies.
pub or_refusal_told : {T : Type 0} (told : Reply → T) (is_reply : Reply → Type 0) (work : Result T Unanswered) (own : T)
    → or_refusal told work ≡ Some own → IfTold told is_reply work → Tells told is_reply own
or_refusal_told told is_reply work own is h = grind arith

-- An audit of an election, an outcome and a certificate. Where the election is refused, the others may state anything.
abbrev pub election_refused : {A : Type 0} (rules : AuditRules A)
    (election : Delivery) (outcome : Option Delivery) (certificate : Delivery) (r : InputRefusal)
    → StatesElection election (Err r) → AnswersAudit rules election outcome certificate (refused r)
election_refused rules election outcome certificate r given = record {
  e = Err r;
  o = None;
  c = Err r;
  given = record { election_states = given; outcome_states = tt; certificate_states = tt };
  out = refl;
  promised = tt;
}

-- where the outcome is, the certificate may
abbrev pub outcome_refused : {A : Type 0} (rules : AuditRules A)
    (election : Delivery) (outcome : Option Delivery) (certificate : Delivery) (e : Instance) (r : InputRefusal)
    → StatesElection election (Ok e) → AuditsOutcome e outcome (Err r)
    → AnswersAudit rules election outcome certificate (refused r)
outcome_refused {A} rules election outcome certificate e r given taken = record {
  e = Ok e;
  o = taken.file;
  c = Err r;
  given = record {
    election_states = given;
    outcome_states = taken.given;
    certificate_states =
        subst (λ (o : Stated (List Bool)). IfOk o (λ w. rules.states e certificate (Err r))) taken.is tt;
  };
  out =
      ap (λ (o : Stated (List Bool)). with_input o (λ w. with_input {A = A} (Err r) (λ c. rules.reply e w c))) taken.is;
  promised = subst (λ (o : Stated (List Bool)). IfOk o (λ w. Unit {0})) taken.is tt;
}

-- a reply on a certificate keeps what its status promises
pub promised_of : {A : Type 0} (rules : AuditRules A)
    → Promised rules
    → (e : Instance) (w : List Bool) (d : Delivery) (c : Stated A) (r : Reply) → rules.states e d c
    → r ≡ with_input c (λ a. rules.reply e w a) → IfOk c (λ a. rules.promises r.status e w a)
promised_of rules each e w d c r given is = grind arith

-- the election and the outcome are accepted
abbrev pub certificate_answered : {A : Type 0} (rules : AuditRules A)
    → Promised rules
    → (election : Delivery) (outcome : Option Delivery) (certificate : Delivery) (e : Instance) (w : List Bool)
    (r : Reply)
    → StatesElection election (Ok e) → AuditsOutcome e outcome (Ok w)
    → AnswersCertificate rules.states rules.reply e w certificate r
    → AnswersAudit rules election outcome certificate r
certificate_answered {A} rules each election outcome certificate e w r given taken answered = record {
  e = Ok e;
  o = taken.file;
  c = answered.c;
  given = record {
    election_states = given;
    outcome_states = taken.given;
    certificate_states =
        subst (λ (o : Stated (List Bool)). IfOk o (λ marks. rules.states e certificate answered.c)) taken.is
        answered.given;
  };
  out = answered.out
      ∙ ap (λ (o : Stated (List Bool)). with_input o (λ marks. with_input answered.c (λ a. rules.reply e marks a)))
      taken.is;
  promised =
      subst (λ (o : Stated (List Bool)). IfOk o (λ marks. IfOk answered.c (λ a. rules.promises r.status e marks a)))
      taken.is (promised_of rules each e w certificate answered.c r answered.given answered.out);
}

-- the same where no outcome file is given
pub stopped_at_outcome : {A : Type 0} (rules : AuditRules A) (election certificate : Delivery) (e : Instance)
    (why : Unanswered)
    → StatesElection election (Ok e) → IfTaken {A = List Bool} (Err why) (AuditsOutcome e None)
    → IfSome (reply_why why) (AnswersAudit rules election None certificate)
stopped_at_outcome rules election certificate e (unanswered.Refused r) given taken =
    outcome_refused rules election None certificate e r given taken
stopped_at_outcome rules election certificate e unanswered.Memory given taken = tt

-- The same on inputs in their turn.
unfoldable pub ended_at_election : {A : Type 0} (rules : AuditRules A)
    (election : Turn) (outcome : FileTurn) (certificate : Turn) (why : Unanswered)
    → IfTaken {A = Instance} (Err why) (Gives StatesElection election) → outcome None → certificate None
    → IfSome (reply_why why) (ReadsAudit rules election outcome certificate)
ended_at_election rules election outcome certificate (unanswered.Refused r) given outcome_left certificate_left = record {
  of_election = given.delivery;
  of_outcome = None;
  of_certificate = delivery.Read;
  answers = election_refused rules given.delivery None delivery.Read r given.stating;
  election_delivered = given.delivered;
  outcome_delivered = outcome_left;
  certificate_delivered = certificate_left;
}
ended_at_election rules election outcome certificate unanswered.Memory given outcome_left certificate_left = tt

unfoldable pub ended_at_outcome : {A : Type 0} (rules : AuditRules A)
    (election : Turn) (outcome : FileTurn) (certificate : Turn) (e : Instance) (why : Unanswered)
    → Gives StatesElection election (Ok e) → IfTaken {A = List Bool} (Err why) (GivesOutcome e outcome)
    → certificate None → IfSome (reply_why why) (ReadsAudit rules election outcome certificate)
ended_at_outcome rules election outcome certificate e (unanswered.Refused r) given taken certificate_left = record {
  of_election = given.delivery;
  of_outcome = taken.delivery;
  of_certificate = delivery.Read;
  answers = outcome_refused rules given.delivery taken.delivery delivery.Read e r given.stating taken.audits;
  election_delivered = given.delivered;
  outcome_delivered = taken.delivered;
  certificate_delivered =
      subst (λ (o : Stated (List Bool)). InTurn o (λ w. certificate (Some delivery.Read)) (certificate None))
      taken.audits.is certificate_left;
}
ended_at_outcome rules election outcome certificate e unanswered.Memory given taken certificate_left = tt

unfoldable pub answered : {A : Type 0} (rules : AuditRules A)
    → Promised rules
    → (election : Turn) (outcome : FileTurn) (certificate : Turn) (e : Instance) (w : List Bool) (d : Delivery)
    (r : Reply)
    → Gives StatesElection election (Ok e) → GivesOutcome e outcome (Ok w) → certificate (Some d)
    → AnswersCertificate rules.states rules.reply e w d r → ReadsAudit rules election outcome certificate r
answered rules each election outcome certificate e w d r given taken delivered found = record {
  of_election = given.delivery;
  of_outcome = taken.delivery;
  of_certificate = d;
  answers = certificate_answered rules each given.delivery taken.delivery d e w r given.stating taken.audits found;
  election_delivered = given.delivered;
  outcome_delivered = taken.delivered;
  certificate_delivered =
      subst (λ (o : Stated (List Bool)). InTurn o (λ w. certificate (Some d)) (certificate None)) taken.audits.is
      delivered;
}

pub answer_settled : {A T : Type 0} (rules : AuditRules A) (told : Reply → T)
    → Promised rules
    → (election : Turn) (outcome : FileTurn) (certificate : Turn) (e : Instance) (w : List Bool) (d : Delivery)
    (work : Result T Unanswered)
    → Gives StatesElection election (Ok e) → GivesOutcome e outcome (Ok w) → certificate (Some d)
    → IfTold told (AnswersCertificate rules.states rules.reply e w d) work
    → IfTold told (ReadsAudit rules election outcome certificate) work
answer_settled rules told each election outcome certificate e w d work given taken delivered found =
    told_weaker told _ _ (λ r. answered rules each election outcome certificate e w d r given taken delivered) work
    found

-- Tidying. Where the election is refused, the certificate may state anything.
abbrev in_turn_tidied : (election certificate : Turn) (e : Stated Instance) (p : Stated Prices) (d : Delivery)
    (answer : Answer Status)
    → Gives StatesElection election e → IfOk e (λ i. StatesPrices name.Certificate i d p)
    → InTurn e (λ i. certificate (Some d)) (certificate None) → answer ≡ tidy_answer e p
    → ReadsTidy election certificate answer
in_turn_tidied election certificate e p d answer given states delivered out = record {
  of_election = given.delivery;
  of_certificate = d;
  answers =
      record { e = e; p = p; election_states = given.stating; certificate_states = states; out = out };
  election_delivered = given.delivered;
  certificate_delivered = delivered;
}

pub tidy_ended : (election certificate : Turn) (why : Unanswered)
    → IfTaken {A = Instance} (Err why) (Gives StatesElection election) → certificate None
    → IfSome (or_refusal answer_of (Err why)) (ReadsTidy election certificate)
tidy_ended election certificate (unanswered.Refused r) given certificate_left =
    in_turn_tidied election certificate (Err r) (Err r) delivery.Read _ given tt certificate_left refl
tidy_ended election certificate unanswered.Memory given certificate_left = tt

pub tidy_answered : (election certificate : Turn) (e : Instance) (d : Delivery) (work : Result (Answer Status) Unanswered)
    → Gives StatesElection election (Ok e) → certificate (Some d) → IfTaken work (TidiesPrices e d)
    → IfSome (or_refusal answer_of work) (ReadsTidy election certificate)
tidy_answered election certificate e d (Ok answer) given delivered tidied =
    in_turn_tidied election certificate (Ok e) (Ok tidied.0) d answer given tidied.1.0 delivered tidied.1.1
tidy_answered election certificate e d (Err (unanswered.Refused r)) given delivered tidied =
    in_turn_tidied election certificate (Ok e) (Err r) d _ given tidied delivered refl
tidy_answered election certificate e d (Err unanswered.Memory) given delivered tidied = tt

-- a failed allocation is told as out of memory
pub memory_told : {T : Type 0} (r : Result T Unanswered) (e : AllocError)
    → IsErr r × IsErrAnd r (from_gives-value.it e) → r ≡ Err unanswered.Memory
memory_told (Ok x) e h = absurd h.1
memory_told (Err s) e h = ap Err h.1

-- what an input is refused for is handed on
pub refusal_told : {T : Type 0} (r : Result T Unanswered) (why : Unanswered) → IsErr r × IsErrAnd r (λ s. s ≡ why)
    → r ≡ Err why
refusal_told (Ok x) why h = absurd h.1
refusal_told (Err s) why h = ap Err h.1
