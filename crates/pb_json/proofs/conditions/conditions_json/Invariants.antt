use Rattle.std.proofs.Common.{◌≡◌, map, take}
use Rattle.serde_json.specs.View.{view}
use Rattle.pb_price.specs.Condition.{all_conditions, found, is_asked, name}
use Rattle.pb_json.specs.Prices.{found_json}
use Rattle.pb_json.proofs.conditions.conditions_json.Given as goal

abbrev pub invariant-loop-condition : goal.invariant-loop-condition
invariant-loop-condition l =
    map view l.list.items
    ≡ map (λ c. found_json l.election (name c) (is_asked l.mode c) (found l.findings c)) (take l.condition-index all_conditions)
