use Rattle.std.proofs.Common.{◌∙◌, append_assoc}
use Rattle.std.proofs.lemmas.Result.{IfOk-weaker}
use Rattle.pb_explain.specs.PriceWords.{unapproved}
use Rattle.pb_explain.proofs.price_table.c1_line.Goals as goal

pub returns : goal.returns
unfolding unapproved
returns c =
    IfOk-weaker c.format-2.result _ _ (λ line e. e ∙ simp (c.id-project.ensures, c.in-Some.is, append_assoc)) c.format-2.ensures.ok
