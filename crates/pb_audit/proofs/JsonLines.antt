-- Texts each of whose lines is one value in JSON.
use Rattle.std.proofs.Common.{◌≡◌, ◌∙◌, [], ◌∷◌, ◌++◌, ap, refl, sym}
use Rattle.std.proofs.lemmas.List.Concat.{flat_map-append}
use Rattle.serde_json.specs.Data.{Data}
use Rattle.serde_json.specs.Written.{compact_text}
use Rattle.pb_records.specs.Records.{Text}
use Rattle.pb_records.proofs.Each.{all-push}
use Rattle.pb_json.specs.Folders.{entry_json}
use Rattle.pb_json.specs.Texts.{IsJson}
use Rattle.pb_reply.specs.Replies.{AreJsonLines, text_of}
use Rattle.pb_audit.specs.Reports.{AddsJsonLine, entry_told}

pub one_line_more : (old new : Text) → AreJsonLines old → AddsJsonLine old new → AreJsonLines new
one_line_more old new are adds = (
  are.0 ++ (adds.line ∷ []),
  (
    adds.added
        ∙ ap (λ (t : Text). t ++ text_of (adds.line ∷ [])) are.1.0
        ∙ sym (flat_map-append _ are.0 (adds.line ∷ [])),
    all-push IsJson are.0 adds.line are.1.1 adds.json,
  ),
)

-- the text of an entry's object
pub entry_written : (name : Text) (e p v : Data)
    → compact_text (entry_json name e p v) ≡ entry_told name (compact_text e) (compact_text p) (compact_text v)
entry_written name e p v = refl
