use Rattle.std.proofs.Common.{◌∙◌, refl, sym, rules, take_all, ap}
use Rattle.std.specs.List.{find}
use Rattle.pb_cohesion.specs.declared.GroupFigures.{GroupFigures}
use Rattle.pb_cohesion.proofs.FirstShort.{found-here, found-more}
use Rattle.pb_cohesion.proofs.Marked.{nothing}
use Rattle.pb_cohesion.proofs.short.shown.first_short.Goals as goal

pub loop-project-init : goal.loop-project-init
loop-project-init c = refl

pub returns-then-project : goal.returns-then-project
returns-then-project c =
    sym (found-here (λ (x : GroupFigures). x.falls_short) c.args.figures.now c.loop-project.project-index nothing
    c.loop-project.invariant c.loop-project-test.true (search rules))

pub loop-project-preserved : goal.loop-project-preserved
loop-project-preserved c =
    found-more (λ (x : GroupFigures). x.falls_short) c.args.figures.now c.loop-project.project-index nothing
    c.loop-project.invariant c.loop-project-test.true (search rules)

pub returns : goal.returns
returns c =
    let all = take_all c.loop-project.project-index c.args.figures.now c.loop-project-test.false in
    sym (ap (find (λ (x : GroupFigures). x.falls_short)) (sym all) ∙ c.loop-project.invariant)
