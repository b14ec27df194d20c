-- Replies and answers: what is found of some inputs, as lines, as a JSON object or as a text, and how it ends.
use Rattle.std.specs.Prelude.{◌≡◌, List, [], ◌∷◌, ◌++◌, flat_map, Ok, Err}
use Rattle.std.specs.List.{AllByRecursion}
use Rattle.serde_json.specs.Written.{compact_text}
use Rattle.pb_records.specs.Records.{Text}
use Rattle.pb_certificate.specs.Prices.Canon.{line_end}
use Rattle.pb_cohesion.specs.declared.GroupsVerdict.{GroupsVerdict}
use Rattle.pb_cohesion.specs.declared.GroupsVerdict.TheVariants as groups_verdict
use Rattle.pb_cohesion.specs.declared.RefutationVerdict.{RefutationVerdict}
use Rattle.pb_cohesion.specs.declared.RefutationVerdict.TheVariants as refutation_verdict
use Rattle.pb_cohesion.specs.declared.ViolationVerdict.{ViolationVerdict}
use Rattle.pb_cohesion.specs.declared.ViolationVerdict.TheVariants as violation_verdict
use Rattle.pb_price.specs.declared.Verdict.{Verdict}
use Rattle.pb_price.specs.declared.Verdict.TheVariants as verdict
use Rattle.pb_json.specs.Answers.{refusal_json}
use Rattle.pb_json.specs.Texts.{IsJson}
use Rattle.pb_reply.specs.Inputs.{Stated}
use Rattle.pb_reply.specs.Lines.{refusal_line}
use Rattle.pb_input.specs.declared.InputRefusal.{InputRefusal}
use Rattle.pb_reply.specs.declared.answer.Format.{Format}
use Rattle.pb_reply.specs.declared.answer.Format.TheVariants.{Lines, Json, JsonAndLines}
use Rattle.pb_reply.specs.declared.status.Status.{Status}
use Rattle.pb_reply.specs.declared.status.Status.TheVariants.{Yes, No, Refused}
use Rattle.pb_reply.specs.declared.status.Unmet.TheVariants as unmet

-- a reply: its lines, the same as the text of a JSON object, and how it ends
pub record Reply : Type 0 where
  pub lines : List Text
  pub json : Text
  pub status : Status

-- a table: its text, the same as the text of a JSON object, and how it ends
pub record TableText : Type 0 where
  pub text : Text
  pub json : Text
  pub status : Status

-- an answer: its text, and how it ends, by a status of some kind
pub record Answer (S : Type 0) : Type 0 where
  pub text : Text
  pub status : S

-- each line with its end, LF
abbrev pub text_of : List Text → Text
text_of lines = flat_map (λ l. l ++ (line_end ∷ [])) lines

abbrev pub as_table : Reply → TableText
as_table reply = record { text = text_of reply.lines; json = reply.json; status = reply.status }

abbrev pub answer_of : Reply → Answer Status
answer_of reply = record { text = text_of reply.lines; status = reply.status }

-- the answer in a format: the lines, or the object in a line, or that line and the others behind it
abbrev pub answer_as : Format → Reply → Answer Status
answer_as Lines reply = answer_of reply
answer_as Json reply = record { text = text_of (reply.json ∷ []); status = reply.status }
answer_as JsonAndLines reply = record { text = text_of (reply.json ∷ reply.lines); status = reply.status }

-- each line of a text is one value in JSON
abbrev pub AreJsonLines : Text → Type 0
AreJsonLines text = (lines : List Text) × ((text ≡ text_of lines) × AllByRecursion IsJson lines)

-- the reply on an input that is refused: the line of the refusal, the same as an object, and the refusal
abbrev pub refused : InputRefusal → Reply
refused r = record { lines = refusal_line r ∷ []; json = compact_text (refusal_json r); status = Refused r }

-- the reply on an input: the first that is refused decides
abbrev pub with_input : {A : Type 0} → Stated A → (A → Reply) → Reply
with_input (Ok a) reply = reply a
with_input (Err r) reply = refused r

-- yes where nothing fails, and else no, with what fails first
abbrev pub price_status : Verdict → Status
price_status verdict.Supported = Yes
price_status (verdict.Failed f) = No (unmet.Prices f)

abbrev pub violation_status : ViolationVerdict → Status
violation_status violation_verdict.Violation = Yes
violation_status (violation_verdict.Failed f) = No (unmet.Violation f)

abbrev pub refutation_status : RefutationVerdict → Status
refutation_status refutation_verdict.Unpriceable = Yes
refutation_status refutation_verdict.UnpriceableUnderCover = Yes
refutation_status refutation_verdict.UnpriceableStable = Yes
refutation_status refutation_verdict.UnpriceableStableUnderCover = Yes
refutation_status (refutation_verdict.Failed f) = No (unmet.Refutation f)

abbrev pub groups_status : GroupsVerdict → Status
groups_status groups_verdict.Satisfied = Yes
groups_status (groups_verdict.Failed c k) = No (unmet.Groups c k)

-- the answer is the text of one of these replies in a format
pub record TellsReply (format : Format) (is_reply : Reply → Type 0) (answer : Answer Status) : Type 0 where
  pub reply : Reply
  pub of_inputs : is_reply reply
  pub out : answer ≡ answer_as format reply
