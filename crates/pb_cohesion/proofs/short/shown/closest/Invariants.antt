use Rattle.std.specs.Prelude.{◌≡◌, IfSome, None, fold, take}
use Rattle.pb_cohesion.specs.Shown.{AreSmall, closer}
use Rattle.pb_cohesion.proofs.short.shown.closest.Given as goal

abbrev pub invariant-loop-project : goal.invariant-loop-project
invariant-loop-project l =
    (l.closest ≡ fold closer None (take l.project-index l.figures)) × IfSome l.closest AreSmall
