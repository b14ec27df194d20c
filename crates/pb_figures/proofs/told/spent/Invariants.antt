use Rattle.std.proofs.Common.{◌≡◌, take}
use Rattle.pb_figures.specs.Told as spec
use Rattle.pb_figures.proofs.told.spent.Given as goal

abbrev pub invariant-loop-project : goal.invariant-loop-project
invariant-loop-project l = l.spent ≡ spec.spent (take l.project-index l.projects)
