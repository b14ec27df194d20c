use Rattle.std.proofs.Common.{◌∙◌, append_assoc}
use Rattle.std.proofs.lemmas.Result.{IfOk-weaker}
use Rattle.pb_explain.specs.ShownGroup.{members_told}
use Rattle.pb_explain.proofs.shown_group.members_line.Goals as goal

pub returns : goal.returns
unfolding members_told
returns c =
    IfOk-weaker c.format.result _ _ (λ line e. e ∙ simp (c.measure_words-by.ensures, append_assoc)) c.format.ensures.ok
