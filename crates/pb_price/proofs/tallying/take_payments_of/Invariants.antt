use Rattle.pb_price.specs.Inside.Tallying.{TakesUntil}
use Rattle.pb_price.proofs.tallying.take_payments_of.Given as goal

abbrev pub invariant-loop-project : goal.invariant-loop-project
invariant-loop-project l = TakesUntil l.election l.prices l.i l.project-index l.so_far
