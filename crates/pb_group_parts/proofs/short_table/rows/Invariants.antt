use Rattle.std.proofs.Common.{map, take}
use Rattle.std.specs.Prelude.{IfSome}
use Rattle.pb_markup.specs.InOrder.{HasParts}
use Rattle.pb_price_parts.specs.Rows.{amount_piece, group_amount}
use Rattle.pb_group_parts.proofs.short_table.rows.Given as goal

abbrev pub invariant-loop-one : goal.invariant-loop-one
invariant-loop-one l = IfSome l.page (HasParts amount_piece (map group_amount (take l.one-index l.ranked)))
