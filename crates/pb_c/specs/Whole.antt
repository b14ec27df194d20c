-- The whole report on a question: what stands beside the answer, and the answer behind it.
use Rattle.std.specs.Prelude.{◌≡◌, ◌++◌, ◌∷◌, [], ℕ, List, Option, Some, None}
use Rattle.pb_input.specs.declared.InputRefusal.{InputRefusal}
use Rattle.pb_json.specs.Beside.{beside_json}
use Rattle.pb_records.specs.Records.{Text}
use Rattle.serde_json.specs.Written.{compact_text}
use Rattle.pb_reply.specs.Replies.{Answer, text_of}
use Rattle.pb_reply.specs.declared.status.Status.{Status}
use Rattle.pb_reply.specs.declared.status.Status.TheVariants.{Yes, No, Refused}

-- the refusal that a status tells
abbrev pub refusal_in : Status → Option InputRefusal
refusal_in Yes = None
refusal_in (No u) = None
refusal_in (Refused r) = Some r

-- The text of one of these answers behind a line, which is a JSON object with its refusal, with some notes, and with some
-- sentences on the refusal. It ends as that answer does.
pub record IsWhole (is_answer : Answer Status → Type 0) (whole : Answer Status) : Type 0 where
  pub answer : Answer Status
  pub of_inputs : is_answer answer
  pub notes : List Text
  pub at : Option ℕ
  pub sentences : List Text
  pub text : whole.text
      ≡ text_of (compact_text (beside_json notes (refusal_in answer.status) at sentences) ∷ []) ++ answer.text
  pub ends : whole.status ≡ answer.status
