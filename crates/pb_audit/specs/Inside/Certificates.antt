-- What the values stand for that the code makes of a certificate on the way to an answer. What a command answers is
-- said without them, in `Answers`.
use Rattle.std.specs.Prelude.{◌≡◌, Bool, List, IfSome, Result, Ok, Err}
use Rattle.pb_election.specs.Instance.{Instance}
use Rattle.pb_records.specs.Loading.{Delivery}
use Rattle.pb_reply.specs.Inputs.{Stated, StatesPrices}
use Rattle.pb_reply.specs.Replies.{Answer, Reply, with_input}
use Rattle.pb_reply.specs.Inside.Taking.{reply_why}
use Rattle.pb_input.specs.declared.InputName.TheVariants as name
use Rattle.pb_reply.specs.declared.unanswered.Unanswered.{Unanswered}
use Rattle.pb_reply.specs.declared.status.Status.{Status}
use Rattle.pb_audit.specs.Answers.{AuditRules, tidy_answer}

-- the reply on a certificate of a kind, for an election and an outcome that were accepted
pub record AnswersCertificate {A : Type 0} (states : Instance → Delivery → Stated A → Type 0)
    (reply : Instance → List Bool → A → Reply) (e : Instance) (w : List Bool) (certificate : Delivery)
    (r : Reply) : Type 0 where
  pub c : Stated A
  pub given : states e certificate c
  pub out : r ≡ with_input c (λ a. reply e w a)

-- it is told of one of these replies
abbrev pub Tells : {T : Type 0} → (Reply → T) → (Reply → Type 0) → T → Type 0
Tells told is_reply own = (reply : Reply) × (is_reply reply × (own ≡ told reply))

-- What some work came to, memory aside: what is told of one of these replies, or why an input was refused, on which the
-- reply is one of these.
abbrev pub IfTold : {T : Type 0} → (Reply → T) → (Reply → Type 0) → Result T Unanswered → Type 0
IfTold told is_reply (Ok own) = Tells told is_reply own
IfTold told is_reply (Err why) = IfSome (reply_why why) is_reply

-- the status of each reply on what a certificate of a kind states keeps what it promises
abbrev pub Promised : {A : Type 0} → AuditRules A → Type 0
Promised {A} rules = (e : Instance) (w : List Bool) (d : Delivery) (a : A) → rules.states e d (Ok a)
    → rules.promises (rules.reply e w a).status e w a

-- what is made of what a certificate states
abbrev pub MadeOf : {S A : Type 0} → (S → A) → (Instance → Delivery → Stated S → Type 0) → Instance → Delivery → Stated A → Type 0
MadeOf {S} make states e certificate (Ok a) = (s : S) × (states e certificate (Ok s) × (a ≡ make s))
MadeOf make states e certificate (Err r) = states e certificate (Err r)

-- the canonical text of the prices that it states
abbrev pub TidiesPrices : Instance → Delivery → Stated (Answer Status) → Type 0
TidiesPrices e certificate stated =
    MadeOf (λ p. tidy_answer (Ok e) (Ok p)) (StatesPrices name.Certificate) e certificate stated
