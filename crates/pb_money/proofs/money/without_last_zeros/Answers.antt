use Rattle.std.proofs.Common.{◌∙◌, sym, ap, tests, rules}
use Rattle.pb_money.specs.Money.{without_last_zeros}
use Rattle.pb_money.proofs.Fractions.{zeros-more, zeros-nil, zeros-other}
use Rattle.pb_money.proofs.money.without_last_zeros.Goals as goal

pub returns-then-last-ne48 : goal.returns-then-last-ne48
returns-then-last-ne48 c =
    let e = c.in-Some.ensures.cases.0 in
    e ∙ sym (zeros-other c.in-Some.front.now c.in-Some.last.now (search (rules, tests))) ∙ ap without_last_zeros (sym e)
    ∙ c.loop-last.invariant

pub loop-last-preserved : goal.loop-last-preserved
loop-last-preserved c =
    let e = c.in-Some.ensures.cases.0 in
    sym (zeros-more c.in-Some.front.now c.in-Some.last.now (search (rules, tests))) ∙ ap without_last_zeros (sym e)
    ∙ c.loop-last.invariant

pub returns : goal.returns
returns c = sym (zeros-nil c.loop-last.rest.now c.in_default.ensures.cases) ∙ c.loop-last.invariant
