use Rattle.std.proofs.Common.{◌≡◌, take}
use Rattle.pb_figures.specs.Ranking.{funded}
use Rattle.pb_figures.proofs.ranking.wrongly_paid_first.Given as goal

abbrev pub invariant-loop-k : goal.invariant-loop-k
invariant-loop-k l = l.order.items ≡ funded (take l.k l.projects)
