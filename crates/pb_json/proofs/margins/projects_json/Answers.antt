use Rattle.std.proofs.Common.{◌<◌, ◌∙◌, ap, arith, length}
use Rattle.serde_json.proofs.Views.{view-Array}
use Rattle.pb_election.specs.Instance.{projects}
use Rattle.pb_json.specs.Members.{list}
use Rattle.pb_json.proofs.ProjectMargins.{project_pushed, projects_told}
use Rattle.pb_json.proofs.margins.projects_json.Goals as goal

pub loop-k-preserved : goal.loop-k-preserved
loop-k-preserved c =
    let low : c.loop-k.k < projects c.args.election.now =
    omega (arith, c.min-told.ensures, c.projects.ensures.value, c.loop-k-test.true) in
    let here : c.loop-k.k < length c.args.figures.now = omega (arith, c.min-told.ensures, c.loop-k-test.true) in
    let told = rw c.in_ok-project.ensures at c.in_ok-push_value.ensures in
    project_pushed c.args.election.now c.args.figures.now c.loop-k.k _ _ _ low here c.loop-k.invariant told

pub returns : goal.returns
returns c =
    view-Array c.loop-k.list
    ∙ ap list
    (projects_told c.args.election.now c.args.figures.now c.loop-k.k _
    (omega (arith, c.min-told.ensures, c.projects.ensures.value, c.loop-k-test.false)) c.loop-k.invariant)
