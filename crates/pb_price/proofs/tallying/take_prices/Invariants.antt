use Rattle.std.proofs.Common.{◌+◌}
use Rattle.pb_price.specs.Inside.Tallying.{TakesUntil}
use Rattle.pb_price.proofs.tallying.take_prices.Given as goal

abbrev pub invariant-loop-k : goal.invariant-loop-k
invariant-loop-k l = TakesUntil l.election l.prices (l.k + 1) 0 l.so_far
