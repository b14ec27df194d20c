use Rattle.std.proofs.Common.{◌≡◌, map, take}
use Rattle.serde_json.specs.View.{view}
use Rattle.pb_json.specs.Groups.{group_json}
use Rattle.pb_json.proofs.margins.each_group_json.Given as goal

abbrev pub invariant-loop-group : goal.invariant-loop-group
invariant-loop-group l =
    map view l.list.items ≡ map (group_json l.election) (take l.group-index l.figures)
