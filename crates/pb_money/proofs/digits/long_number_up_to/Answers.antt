use Rattle.pb_money.proofs.Numbers.{digit-at, too-large}
use Rattle.pb_money.proofs.digits.long_number_up_to.Goals as goal

pub returns-then-number-most : goal.returns-then-number-most
returns-then-number-most c =
    too-large c.args.digits.now c.loop-digit.digit-index c.loop-digit.number c.args.most c.loop-digit.invariant
    c.if-number-most.true

pub overflow_sub-digit : goal.overflow_sub-digit
overflow_sub-digit c = (digit-at c.args.digits.now c.loop-digit.digit-index c.requires.digits c.loop-digit-test.true).0
