use mir.Syntax.{w128}
use Rattle.std.proofs.lemmas.Nat.Bits.{bit_at_set_other, bit_at_set_same}
use Rattle.pb_price.proofs.nearest.with_bit.Goals as goal

pub returns : goal.returns
returns c = record { set = bit_at_set_same w128 _ _ c.requires; others = bit_at_set_other w128 _ _ c.requires }
