use Rattle.std.proofs.Common.{◌∙◌, append_assoc}
use Rattle.std.proofs.lemmas.Result.{IfOk-weaker}
use Rattle.pb_explain.specs.ShownGroup.{share_told}
use Rattle.pb_explain.proofs.shown_group.share_line.Goals as goal

pub returns : goal.returns
unfolding share_told
returns c =
    IfOk-weaker c.format.result _ _ (λ line e. e ∙ simp (c.parts_per_unit.ensures, c.share_of.ensures.value, append_assoc)) c.format.ensures.ok
