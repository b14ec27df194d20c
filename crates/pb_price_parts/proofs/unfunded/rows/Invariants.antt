use Rattle.std.proofs.Common.{map, take}
use Rattle.std.specs.Prelude.{IfSome}
use Rattle.pb_markup.specs.InOrder.{HasParts}
use Rattle.pb_price_parts.specs.Rows.{amount_piece, unfunded_amount}
use Rattle.pb_price_parts.proofs.unfunded.rows.Given as goal

abbrev pub invariant-loop-one : goal.invariant-loop-one
invariant-loop-one l = IfSome l.page (HasParts amount_piece (map (unfunded_amount l.case.told.mode.stable) (take l.one-index l.ranked)))
