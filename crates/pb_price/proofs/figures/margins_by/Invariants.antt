use Rattle.std.proofs.Common.{◌≡◌, map}
use Rattle.std.specs.List.{range_with_len}
use Rattle.pb_price.specs.Inside.Tallies.{figures_of}
use Rattle.pb_price.proofs.figures.margins_by.Given as goal

abbrev pub invariant-loop-k : goal.invariant-loop-k
invariant-loop-k l = l.margins.items
    ≡ map (figures_of l.election l.outcome.marks l.denominator l.sums) (range_with_len 1 l.k)
