use Rattle.std.proofs.Common.{◌∙◌, append_assoc, sym}
use Rattle.std.proofs.lemmas.Bool.{ne_eqb}
use Rattle.std.proofs.lemmas.Result.{IfOk-weaker}
use Rattle.pb_explain.specs.ViolationTable.{share}
use Rattle.pb_explain.proofs.violation_table.v3_line.Goals as goal

pub returns-then-voters-eq0 : goal.returns-then-voters-eq0
returns-then-voters-eq0 c =
    IfOk-weaker c.format.result _ _ (λ line e. e ∙ simp (c.voters-voters.ensures.value, c.from.ensures, c.limit.ensures.value, c.millionths.ensures.value, c.from-2.ensures, c.from-3.ensures, sym c.voters-voters.ensures.value ∙ c.if-voters-eq0.true)) c.format.ensures.ok

pub returns : goal.returns
unfolding share
returns c =
    IfOk-weaker c.format-2.result _ _ (λ line e. e ∙ simp (c.voters-voters.ensures.value, c.from.ensures, c.limit.ensures.value, c.millionths.ensures.value, c.from-2.ensures, c.from-3.ensures, ne_eqb _ _ (λ none. c.if-voters-eq0.false (c.voters-voters.ensures.value ∙ none)), c.from-4.ensures, append_assoc)) c.format-2.ensures.ok
