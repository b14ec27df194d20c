use Rattle.std.proofs.Common.{sym, arith}
use Rattle.pb_money.proofs.Amounts.{amount_faults, money-large, parts-value, units-large}
use Rattle.pb_money.proofs.Fractions.{zeros-digits}
use Rattle.pb_money.proofs.Laws.{answers-only, money-is, money-tested}
use Rattle.pb_money.proofs.money.Money.read.Goals as goal

pub returns-in_default-number_up_to-clause-exact : goal.returns-in_default-number_up_to-clause-exact
returns-in_default-number_up_to-clause-exact c = grind (arith, money-large, units-large)

pub returns-in_default-number_up_to-clause-only : goal.returns-in_default-number_up_to-clause-only
returns-in_default-number_up_to-clause-only c =
    answers-only c.args.text.now _ (returns-in_default-number_up_to-clause-exact c)

pub fraction_millionths-requires-clause-digits : goal.fraction_millionths-requires-clause-digits
fraction_millionths-requires-clause-digits c = grind (arith, zeros-digits)

pub returns-then-millionths-clause-exact : goal.returns-then-millionths-clause-exact
returns-then-millionths-clause-exact c = grind (arith, parts-value, money-large)

pub returns-then-millionths-clause-only : goal.returns-then-millionths-clause-only
returns-then-millionths-clause-only c = answers-only c.args.text.now _ (returns-then-millionths-clause-exact c)

pub returns-clause-found : goal.returns-clause-found
returns-clause-found c = grind (arith, money-tested, parts-value)

pub returns-clause-exact : goal.returns-clause-exact
returns-clause-exact c = sym (money-is c.args.text.now _ (returns-clause-found c))

pub returns-clause-only : goal.returns-clause-only
returns-clause-only c = answers-only c.args.text.now _ (returns-clause-exact c)

pub returns-in_default-clause-only : goal.returns-in_default-clause-only
returns-in_default-clause-only c = answers-only c.args.text.now _ (grind (arith, amount_faults))

pub returns-then-fraction-gt6-clause-only : goal.returns-then-fraction-gt6-clause-only
returns-then-fraction-gt6-clause-only c = answers-only c.args.text.now _ (grind (arith, amount_faults))
