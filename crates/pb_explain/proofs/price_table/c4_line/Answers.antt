use Rattle.std.proofs.Common.{rules, ◌≡◌, ◌∙◌, append_assoc, of_z, to_z}
use Rattle.std.proofs.lemmas.Result.{IfOk-weaker}
use Rattle.std.proofs.Math.Facts.{to_z-of_z}
use mir.Syntax.{w128}
use Rattle.pb_explain.specs.PriceWords.{unfunded_paid}
use Rattle.pb_explain.proofs.price_table.c4_line.Goals as goal

pub returns : goal.returns
unfolding unfunded_paid
returns c =
    let kept : to_z w128 (of_z w128 c.in-Some.here.amount) ≡ c.in-Some.here.amount = search (rules, to_z-of_z) in
    IfOk-weaker c.format-2.result _ _ (λ line e. e ∙ simp (c.id-project.ensures, c.in-Some.is, c.from.ensures, kept, append_assoc)) c.format-2.ensures.ok
