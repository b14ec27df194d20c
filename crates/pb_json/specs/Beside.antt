-- What stands beside an answer: the notes on it, why an input is refused, and what a person is told of that.
use Rattle.std.specs.Prelude.{ℕ, List, [], ◌∷◌, Option, codes, map}
use Rattle.serde_json.specs.Data.{Data, null}
use Rattle.pb_input.specs.declared.InputRefusal.{InputRefusal}
use Rattle.pb_json.specs.Answers.{refusal_json}
use Rattle.pb_json.specs.Members.{count, fields, list, or_null, text}
use Rattle.pb_records.specs.Records.{Text}

abbrev pub texts_json : List Text → Data
texts_json texts = list (map text texts)

-- sentences, and the line of the file on which the refused record begins; null where nothing is told
abbrev pub hint_json : Option ℕ → List Text → Data
hint_json line [] = null
hint_json line (s ∷ ss) = fields (
    (codes "line", or_null count line)
    ∷ (codes "sentences", texts_json (s ∷ ss))
    ∷ [])

abbrev pub refusal_or_null : Option InputRefusal → Data
refusal_or_null r = or_null refusal_json r

abbrev pub beside_json : List Text → Option InputRefusal → Option ℕ → List Text → Data
beside_json notes refusal line sentences = fields (
    (codes "hint", hint_json line sentences)
    ∷ (codes "notes", texts_json notes)
    ∷ (codes "refusal", refusal_or_null refusal)
    ∷ [])
