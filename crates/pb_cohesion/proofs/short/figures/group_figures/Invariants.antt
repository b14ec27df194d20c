use Rattle.std.proofs.Common.{take}
use Rattle.pb_cohesion.specs.Inside.Counting.{AllStand}
use Rattle.pb_cohesion.proofs.short.figures.group_figures.Given as goal

abbrev pub invariant-loop-one : goal.invariant-loop-one
invariant-loop-one l =
    AllStand l.measure l.election l.outcome.marks (take l.one-index l.one-items) l.figures.items
