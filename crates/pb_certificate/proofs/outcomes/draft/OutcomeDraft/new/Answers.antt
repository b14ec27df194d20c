use Rattle.std.proofs.Common.{◌≡◌, ◌∙◌, [], ap, false, refl}
use Rattle.std.specs.Prelude.{replicate}
use Rattle.pb_election.specs.Instance.{projects}
use Rattle.pb_records.proofs.Headed.{nothing-kept}
use Rattle.pb_certificate.specs.Inside.Marks.{project_marks}
use Rattle.pb_certificate.specs.Outcomes.Kind.{outcome_kind}
use Rattle.pb_certificate.proofs.MarkLemmas.{none-marked}
use Rattle.pb_certificate.proofs.outcomes.draft.OutcomeDraft.new.Goals as goal

pub returns : goal.returns
returns c =
    let e = c.args.election.now in
    let none : c.in_ok-marks.marks.items ≡ project_marks e [] =
    c.in_ok-marks.ensures.items_if_clones_equal (λ y e. e) ∙ ap (λ n. replicate n false) c.projects.ensures.value
    ∙ none-marked (projects e) in
    nothing-kept (outcome_kind e) (project_marks e) (false, c.in_ok-marks.marks.items) (rw none refl)
