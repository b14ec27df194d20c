-- A value as a text.
use Rattle.std.specs.Prelude.{◌≡◌, ◌≤◌, ℕ, Some, false}
use Rattle.serde_json.specs.Data.{Data, depth}
use Rattle.serde_json.specs.Read.{read}
use Rattle.serde_json.specs.Written.{has_float}
use Rattle.pb_records.specs.Records.{Text}

-- it has no number with a fraction, and objects and lists nest in it no deeper than this
abbrev pub IsPlain : ℕ → Data → Type 0
IsPlain most d = (has_float d ≡ false) × (depth d ≤ most)

-- so deep an object nests at most, which leaves room for those in which it stands
abbrev pub most_nested : ℕ
most_nested = 100

-- the text is one value in JSON, which is this one, and nothing else
abbrev pub ReadsAs : Text → Data → Type 0
ReadsAs text d = read text ≡ Some d

-- the text is one value in JSON
abbrev pub IsJson : Text → Type 0
IsJson text = (d : Data) × ReadsAs text d
