use Rattle.std.proofs.Common.{◌≡◌}
use Rattle.pb_markup.specs.Pieces.{close_innermost}
use Rattle.pb_markup.proofs.markup.Writing.end_all.Given as goal

abbrev pub invariant-loop : goal.invariant-loop
invariant-loop l = l.self ≡ close_innermost l.counter l.initial.self
