use Rattle.std.proofs.Common.{◌≡◌, sym, ◌∙◌, ap, subst}
use Rattle.std.specs.Prelude.{◌↔◌}
use Rattle.pb_cohesion.specs.Shown.{verdict_of}
use Rattle.pb_cohesion.specs.Short.{SatisfiesEjrPlus}
use Rattle.pb_cohesion.specs.declared.GroupsVerdict.{GroupsVerdict}
use Rattle.pb_cohesion.specs.declared.GroupsVerdict.TheVariants.{Satisfied, Failed}
use Rattle.pb_cohesion.proofs.FirstShort.{failed-is, first-is, satisfied-is}
use Rattle.pb_cohesion.proofs.short.check_groups.Goals as goal

pub returns-clause-satisfied : goal.returns-clause-satisfied
returns-clause-satisfied c =
    let is : c.verdict_of.result ≡ verdict_of c.in_ok-figures.figures.items =
    c.verdict_of.ensures ∙ ap verdict_of c.deref.ensures.value in
    subst (λ (v : GroupsVerdict). (v ≡ Satisfied)
    ↔ SatisfiesEjrPlus c.args.measure c.args.election.now c.args.outcome.now.marks) (sym is)
    (satisfied-is c.args.measure c.args.election.now c.args.outcome.now.marks c.in_ok-figures.figures.items
    c.in_ok-figures.ensures.figures)

pub returns-clause-failed : goal.returns-clause-failed
returns-clause-failed c project voters is_ok =
    let named : c.verdict_of.result ≡ Failed project voters = cc in
    failed-is c.args.measure c.args.election.now c.args.outcome.now.marks c.in_ok-figures.figures.items project voters
    c.in_ok-figures.ensures.figures
    (sym (c.verdict_of.ensures ∙ ap verdict_of c.deref.ensures.value) ∙ named)

pub returns-clause-first : goal.returns-clause-first
returns-clause-first c s project first =
    c.verdict_of.ensures ∙ ap verdict_of c.deref.ensures.value
    ∙ first-is c.args.measure c.args.election.now c.args.outcome.now.marks c.in_ok-figures.figures.items s project
    c.in_ok-figures.ensures.figures first
