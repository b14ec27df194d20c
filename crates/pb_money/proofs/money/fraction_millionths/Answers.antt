use Rattle.pb_money.proofs.Fractions.{fraction-step}
use Rattle.pb_money.proofs.Numbers.{digit-at}
use Rattle.pb_money.proofs.money.fraction_millionths.Goals as goal

pub overflow_sub-digit : goal.overflow_sub-digit
overflow_sub-digit c =
    (digit-at c.args.fraction.now c.loop-digit.digit-index c.requires.digits c.loop-digit-test.true).0

pub loop-digit-preserved : goal.loop-digit-preserved
loop-digit-preserved c =
    let kept = c.loop-digit.invariant in
    let s = fraction-step c.args.fraction.now c.loop-digit.digit-index c.loop-digit.millionths c.loop-digit.unit
    c.from.result c.requires.digits c.loop-digit-test.true c.requires.fine kept.unit kept.value kept.small
    c.from.ensures in
    record { unit = s.0; value = s.1; small = s.2 }
