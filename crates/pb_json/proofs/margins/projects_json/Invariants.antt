use Rattle.std.proofs.Common.{◌≡◌, map, take}
use Rattle.std.specs.List.{zip}
use Rattle.serde_json.specs.View.{view}
use Rattle.pb_election.specs.Instance.{all_projects}
use Rattle.pb_json.specs.Margins.{margin_json}
use Rattle.pb_json.proofs.margins.projects_json.Given as goal

abbrev pub invariant-loop-k : goal.invariant-loop-k
invariant-loop-k l =
    map view l.list.items ≡ map (margin_json l.election) (take l.k (zip (all_projects l.election) l.figures))
