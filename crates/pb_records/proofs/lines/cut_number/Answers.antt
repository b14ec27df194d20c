use Rattle.std.proofs.Common.{take}
use Rattle.std.proofs.lemmas.Str.{IsCharBoundary-from_take, IsUtf8-from_ascii}
use Rattle.pb_records.proofs.PlainLines.{digits-ascii, whole-digits}
use Rattle.pb_records.proofs.lines.cut_number.Goals as goal

pub range_from-requires : goal.range_from-requires
range_from-requires c =
    let text = c.args.text.now in
    let len = c.in_ok-number.len in
    let states = rw c.as_bytes.ensures.value at c.in_ok-number.ensures.states in
    let within = rw c.as_bytes.ensures.value at c.in_ok-number.ensures.within in
    λ h. IsCharBoundary-from_take text len c.utf8.text within
    (IsUtf8-from_ascii (take len text)
    (digits-ascii (take len text) (whole-digits (take len text) c.in_ok-number.number states)))
