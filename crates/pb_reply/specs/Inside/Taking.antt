-- What the values stand for that the code takes and hands on between an input and its reply. What an input states is
-- said without them, in `Inputs` and `Turns`.
use Rattle.std.specs.Prelude.{◌≡◌, if◌then◌else◌, Bool, ℕ, List, Option, Some, None, Result, Ok, Err}
use Rattle.std.specs.Option.{option_map}
use Rattle.pb_election.specs.Instance.{Instance}
use Rattle.pb_records.specs.Loading.{Delivery}
use Rattle.pb_records.specs.Loading as delivery
use Rattle.pb_election.specs.Outcome.{Decided, Funding}
use Rattle.pb_certificate.specs.Violations.{Claim}
use Rattle.pb_certificate.specs.declared.violations.measure.Measure.{Measure}
use Rattle.pb_reply.specs.Replies.{Reply, refused}
use Rattle.pb_reply.specs.Inputs.{Stated, StatesFile, StatesOutcome, audited, refusal_of}
use Rattle.pb_reply.specs.Turns.{FileTurn, Turn}
use Rattle.pb_input.specs.Faults.{wants_memory}
use Rattle.pb_input.specs.declared.InputFault.{InputFault}
use Rattle.pb_input.specs.declared.InputFault.TheVariants as fault
use Rattle.pb_input.specs.declared.InputName.{InputName}
use Rattle.pb_reply.specs.declared.unanswered.Unanswered.{Unanswered}
use Rattle.pb_reply.specs.declared.unanswered.Unanswered.TheVariants as unanswered

-- what an input that was taken states, memory aside
abbrev pub IfTaken : {A : Type 0} → Result A Unanswered → (Stated A → Type 0) → Type 0
IfTaken (Ok a) is_stated = is_stated (Ok a)
IfTaken (Err (unanswered.Refused r)) is_stated = is_stated (Err r)
IfTaken (Err unanswered.Memory) is_stated = Unit {0}

-- an input of this name was not delivered whole, and the work on it stops so
abbrev pub IsUnloaded : InputName → Delivery → Unanswered → Type 0
IsUnloaded input (delivery.Bytes bytes) why = ⊥
IsUnloaded input delivery.Read why = why ≡ unanswered.Refused (refusal_of input fault.Unread)
IsUnloaded input delivery.TooLong why = why ≡ unanswered.Refused (refusal_of input fault.TooLong)

-- what the work on an input stops for
abbrev pub unanswered_at : InputName → InputFault → Unanswered
unanswered_at input why = if wants_memory why then unanswered.Memory else unanswered.Refused (refusal_of input why)

-- an outcome that was taken as its marks, also with its election, and a claim as its measure, its group and its demand
abbrev pub as_marks : Result Funding Unanswered → Result (List Bool) Unanswered
as_marks (Ok w) = Ok w.marks
as_marks (Err why) = Err why

abbrev pub decided_as : Result Decided Unanswered → Result (List Bool) Unanswered
decided_as (Ok d) = Ok d.outcome.marks
decided_as (Err why) = Err why

abbrev pub claimed : Result Claim Unanswered → Result (Measure × List ℕ × List ℕ) Unanswered
claimed (Ok v) = Ok (v.measure, v.group, v.demand)
claimed (Err why) = Err why

-- the outcome that is audited, with what the outcome file states, where one is given
pub record AuditsOutcome (e : Instance) (outcome : Option Delivery) (stated : Stated (List Bool)) : Type 0 where
  pub file : Option (Stated (List Bool))
  pub given : StatesFile (StatesOutcome e) outcome file
  pub is : stated ≡ audited e file

-- the turn of an input came, and it states this
pub record Gives {A : Type 0} (states : Delivery → Stated A → Type 0) (t : Turn) (stated : Stated A) : Type 0 where
  pub delivery : Delivery
  pub delivered : t (Some delivery)
  pub stating : states delivery stated

-- the turn of the outcome file came, where one is given, and this is the outcome that is audited
pub record GivesOutcome (e : Instance) (t : FileTurn) (stated : Stated (List Bool)) : Type 0 where
  pub delivery : Option Delivery
  pub delivered : t (Some delivery)
  pub audits : AuditsOutcome e delivery stated

-- the reply that tells why; there is none where memory was wanted
abbrev pub reply_why : Unanswered → Option Reply
reply_why (unanswered.Refused r) = Some (refused r)
reply_why unanswered.Memory = None

-- what some work came to: its own, or what is told of the reply that tells why it has none
abbrev pub or_refusal : {T : Type 0} → (Reply → T) → Result T Unanswered → Option T
or_refusal told (Ok own) = Some own
or_refusal told (Err why) = option_map told (reply_why why)
