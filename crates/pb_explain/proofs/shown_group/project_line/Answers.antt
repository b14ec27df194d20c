use Rattle.std.proofs.Common.{◌∙◌, append_assoc}
use Rattle.std.proofs.lemmas.Result.{IfOk-weaker}
use Rattle.pb_explain.specs.ShownGroup.{project_told}
use Rattle.pb_explain.proofs.shown_group.project_line.Goals as goal

pub returns : goal.returns
unfolding project_told
returns c =
    IfOk-weaker c.format.result _ _ (λ line e. e ∙ simp (c.voters-voters.ensures.value, c.id-project.ensures, c.cost.ensures, c.millionths.ensures.value, c.from.ensures, append_assoc)) c.format.ensures.ok
