use Rattle.std.proofs.Common.{◌∙◌, append_assoc}
use Rattle.std.proofs.lemmas.Result.{IfOk-weaker}
use Rattle.pb_explain.specs.RefutationTable.{least_told, most_told}
use Rattle.pb_explain.proofs.refutation_table.u3_line.Goals as goal

pub returns : goal.returns
unfolding least_told most_told
returns c =
    IfOk-weaker c.format.result _ _ (λ line e. e ∙ simp (c.costs_differ.ensures, append_assoc)) c.format.ensures.ok
