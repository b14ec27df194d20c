use Rattle.std.proofs.Common.{◌≡◌, ◌<◌, arith, length, get_or}
use Rattle.std.proofs.lemmas.Bool.Decides.{nat_tests}
use Rattle.std.proofs.lemmas.Str.{IsCharBoundary-after_ascii}
use Rattle.pb_records.proofs.lines.behind.Goals as goal

pub range_from-requires : goal.range_from-requires
range_from-requires c =
    let same = c.as_bytes-bytes.ensures.value in
    let some : 0 < length c.args.text.now = grind (arith, nat_tests) in
    let first : get_or c.args.text.now 0 0 ≡ c.args.byte = rw same at c.if-bytes-byte.false in
    λ h.
    IsCharBoundary-after_ascii c.args.text.now 0 c.utf8.text some (omega (arith, first, c.requires))
