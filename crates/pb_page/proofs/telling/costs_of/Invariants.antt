use Rattle.std.proofs.Common.{◌≡◌, map}
use Rattle.std.specs.List.{range_with_len}
use Rattle.pb_election.specs.Instance.{cost_of}
use Rattle.pb_page.proofs.telling.costs_of.Given as goal

abbrev pub invariant-loop-k : goal.invariant-loop-k
invariant-loop-k l = l.costs.items ≡ map (cost_of l.election) (range_with_len 1 l.k)
