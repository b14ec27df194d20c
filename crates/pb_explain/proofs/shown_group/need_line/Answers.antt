use Rattle.std.proofs.Common.{◌∙◌, append_assoc}
use Rattle.std.proofs.lemmas.Result.{IfOk-weaker}
use Rattle.pb_explain.specs.ShownGroup.{need_told}
use Rattle.pb_explain.proofs.shown_group.need_line.Goals as goal

pub returns : goal.returns
unfolding need_told
returns c =
    IfOk-weaker c.format.result _ _ (λ line e. e ∙ simp (c.need_words-why.ensures, append_assoc)) c.format.ensures.ok
