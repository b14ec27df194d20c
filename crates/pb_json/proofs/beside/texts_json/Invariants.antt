use Rattle.std.proofs.Common.{◌≡◌, map, string_bytes, take}
use Rattle.serde_json.specs.View.{view}
use Rattle.pb_json.specs.Members.{text}
use Rattle.pb_json.proofs.beside.texts_json.Given as goal

abbrev pub invariant-loop-text : goal.invariant-loop-text
invariant-loop-text l = map view l.list.items ≡ map text (map string_bytes (take l.text-index l.texts))
