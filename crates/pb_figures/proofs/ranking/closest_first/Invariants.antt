use Rattle.std.proofs.Common.{◌≡◌, take}
use Rattle.pb_figures.specs.Ranking.{unfunded}
use Rattle.pb_figures.proofs.ranking.closest_first.Given as goal

abbrev pub invariant-loop-k : goal.invariant-loop-k
invariant-loop-k l = l.ranked.items ≡ unfunded l.stable (take l.k l.projects)
