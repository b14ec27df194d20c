use Rattle.std.specs.Prelude.{◌≡◌, None, find, take}
use Rattle.pb_cohesion.proofs.short.shown.first_short.Given as goal

abbrev pub invariant-loop-project : goal.invariant-loop-project
invariant-loop-project l = find (λ x. x.falls_short) (take l.project-index l.figures) ≡ None
