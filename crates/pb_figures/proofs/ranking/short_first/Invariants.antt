use Rattle.std.proofs.Common.{◌≡◌, take}
use Rattle.pb_figures.specs.Ranking.{groups}
use Rattle.pb_figures.proofs.ranking.short_first.Given as goal

abbrev pub invariant-loop-k : goal.invariant-loop-k
invariant-loop-k l = l.order.items ≡ groups (take l.k l.groups)
