use Rattle.std.proofs.Common.{◌∙◌, append_assoc}
use Rattle.std.proofs.lemmas.Result.{IfOk-weaker}
use Rattle.pb_explain.specs.PriceWords.{outcome}
use Rattle.pb_explain.proofs.price_table.feasible_line.Goals as goal

pub returns : goal.returns
unfolding outcome
returns c =
    IfOk-weaker c.format.result _ _ (λ line e. e ∙ simp (append_assoc)) c.format.ensures.ok
