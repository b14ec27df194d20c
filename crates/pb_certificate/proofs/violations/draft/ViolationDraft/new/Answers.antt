use Rattle.std.proofs.Common.{◌≡◌, ◌∙◌, [], ap, false, refl}
use Rattle.std.specs.Prelude.{replicate}
use Rattle.pb_election.specs.Instance.{projects, voters}
use Rattle.pb_records.proofs.Headed.{nothing-kept}
use Rattle.pb_certificate.specs.Inside.Marks.{project_marks, voter_marks}
use Rattle.pb_certificate.specs.Inside.Violations.{both_marks}
use Rattle.pb_certificate.specs.Violations.Kind.{violation_kind}
use Rattle.pb_certificate.specs.declared.violations.draft.Awaited.TheVariants.{Format}
use Rattle.pb_certificate.specs.declared.violations.measure.Measure.TheVariants.{ByCount}
use Rattle.pb_certificate.proofs.MarkLemmas.{none-marked}
use Rattle.pb_certificate.proofs.violations.draft.ViolationDraft.new.Goals as goal

pub returns : goal.returns
returns c =
    let e = c.args.election.now in
    let group : c.in_ok-group.group.items ≡ voter_marks e [] =
    c.in_ok-group.ensures.items_if_clones_equal (λ y e. e) ∙ ap (λ n. replicate n false) c.voters.ensures.value
    ∙ none-marked (voters e) in
    let demand : c.in_ok-demand.demand.items ≡ project_marks e [] =
    c.in_ok-demand.ensures.items_if_clones_equal (λ y e. e) ∙ ap (λ n. replicate n false) c.projects.ensures.value
    ∙ none-marked (projects e) in
    nothing-kept (violation_kind e) (both_marks e)
    (record { awaited = Format; measure = ByCount }, (c.in_ok-group.group.items, c.in_ok-demand.demand.items))
    (rw (group, demand) refl)
