use Rattle.std.proofs.Common.{◌≡◌, ◌++◌, map, take}
use Rattle.std.specs.Prelude.{string_bytes}
use Rattle.pb_price.specs.Condition.{all_conditions}
use Rattle.pb_explain.specs.PriceTable.{line}
use Rattle.pb_explain.proofs.price_table.push_price_table.Given as goal

abbrev pub invariant-loop-condition : goal.invariant-loop-condition
invariant-loop-condition l =
    map string_bytes l.lines.items
    ≡ map string_bytes l.fn.lines.items ++ map (line l.mode l.election l.findings) (take l.condition-index all_conditions)
