use Rattle.std.proofs.Common.{◌∙◌}
use Rattle.std.proofs.lemmas.Result.{IfOk-weaker}
use Rattle.pb_explain.proofs.Flat.{costs-flat, share-flat}
use Rattle.pb_explain.proofs.group_lines.nearest_line.Goals as goal

pub returns : goal.returns
returns c =
    IfOk-weaker c.format.result _ _ (λ line e. e ∙ simp (c.id-project.ensures, c.from-supporters.ensures, c.voters.ensures.value, c.from.ensures, c.limit.ensures.value, c.millionths.ensures.value, c.from-2.ensures, c.cost.ensures, c.millionths-2.ensures.value, c.from-3.ensures, share-flat, costs-flat)) c.format.ensures.ok
