use Rattle.std.proofs.Common.{map, string_bytes, subst, sym}
use Rattle.serde_json.specs.Data.{Data}
use Rattle.pb_json.specs.Beside.{beside_json}
use Rattle.pb_json.specs.Texts.{IsPlain, most_nested}
use Rattle.pb_json.proofs.Plain.{beside_is_plain, both_plain_enough}
use Rattle.pb_c.proofs.whole.beside_line.Goals as goal

pub new-requires : goal.new-requires
new-requires c =
    let notes = map string_bytes c.args.notes.now in
    let sentences = map string_bytes c.args.sentences.now in
    subst (λ (d : Data). IsPlain most_nested d) (sym c.in_ok-beside.ensures)
    (both_plain_enough (beside_json notes c.args.refusal c.args.line sentences)
    (beside_is_plain notes c.args.refusal c.args.line sentences))
