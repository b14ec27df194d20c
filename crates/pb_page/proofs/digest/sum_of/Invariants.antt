use Rattle.std.proofs.Common.{◌≡◌, take, flat_map}
use Rattle.std.specs.Prelude.{string_bytes}
use Rattle.pb_page.specs.Sums.{two_digits}
use Rattle.pb_page.proofs.digest.sum_of.Given as goal

abbrev pub invariant-loop-byte : goal.invariant-loop-byte
invariant-loop-byte l = string_bytes l.text ≡ flat_map two_digits (take l.byte-index l.byte-items)
