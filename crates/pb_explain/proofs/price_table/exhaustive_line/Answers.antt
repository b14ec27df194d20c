use Rattle.std.proofs.Common.{rules, ◌≡◌, ◌∙◌, append_assoc, of_z, to_z}
use Rattle.std.proofs.lemmas.Bool.{ne_eqb}
use Rattle.std.proofs.lemmas.Result.{IfOk-weaker}
use Rattle.std.proofs.Math.Facts.{to_z-of_z}
use mir.Syntax.{w128}
use Rattle.pb_explain.specs.PriceWords.{cheapest, fitting}
use Rattle.pb_explain.proofs.price_table.exhaustive_line.Goals as goal

pub returns-then-found-eq0 : goal.returns-then-found-eq0
unfolding cheapest
returns-then-found-eq0 c =
    let kept : to_z w128 (of_z w128 c.in-Some.here.amount) ≡ c.in-Some.here.amount = search (rules, to_z-of_z) in
    IfOk-weaker c.format-then-found-eq0.result _ _ (λ line e. e ∙ simp (c.id-project.ensures, c.in-Some.is, c.if-found-eq0.true, kept, append_assoc)) c.format-then-found-eq0.ensures.ok

pub returns : goal.returns
unfolding fitting
returns c =
    let kept : to_z w128 (of_z w128 c.in-Some.here.amount) ≡ c.in-Some.here.amount = search (rules, to_z-of_z) in
    IfOk-weaker c.format-2.result _ _ (λ line e. e ∙ simp (c.id-project.ensures, c.in-Some.is, ne_eqb _ _ c.if-found-eq0.false, c.from.ensures, kept, append_assoc)) c.format-2.ensures.ok
