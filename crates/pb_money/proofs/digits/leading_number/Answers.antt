use Rattle.std.proofs.Common.{◌<◌, ◌≤◌, ◌+◌, ◌*◌, ◌-◌, ◌∙◌, ℕ, suc, add-one, ap, sym, arith, get_or, length}
use Rattle.std.proofs.lemmas.List.Sums.{prefix_len-le-length}
use Rattle.pb_money.proofs.Numbers.{all-more, digits-in-front, eighteen-at-most, no-more-in-front, number-more, one-longer}
use Rattle.pb_money.proofs.digits.leading_number.Goals as goal
use Rattle.pb_money.proofs.digits.leading_number.Goals.{then-loop-len-test+else-is_ascii_digit, else-loop-len-test}

pub overflow_mul-number : goal.overflow_mul-number
overflow_mul-number c =
    let i = c.loop-len.len in
    let longer = one-longer c.loop-len.number i 0 c.loop-len.invariant.small (omega arith) in
    omega (
      arith,
      eighteen-at-most (c.loop-len.number * 10 + 0) (suc i) longer
          (omega (arith, c.min-most.ensures, c.loop-len-test.true)),
    )

pub overflow_add-number : goal.overflow_add-number
overflow_add-number c =
    let i = c.loop-len.len in
    let digit : c.from.result ≤ 9 = omega (arith, c.from.ensures, c.if-is_ascii_digit.ensures.cases) in
    let longer = one-longer c.loop-len.number i c.from.result c.loop-len.invariant.small digit in
    omega (
      arith,
      eighteen-at-most (c.loop-len.number * 10 + c.from.result) (suc i) longer
          (omega (arith, c.min-most.ensures, c.loop-len-test.true)),
    )

pub loop-len-preserved : goal.loop-len-preserved
loop-len-preserved c =
    let text = c.args.text.now in
    let i = c.loop-len.len in
    let n = c.loop-len.number in
    let within : i < length text = omega (arith, c.min-most.ensures, c.loop-len-test.true) in
    let digit : c.from.result ≤ 9 = omega (arith, c.from.ensures, c.if-is_ascii_digit.ensures.cases) in
    record {
      within = omega (arith, c.loop-len-test.true);
      digits =
          rw (add-one i)
          (all-more text i within c.loop-len.invariant.digits (sym c.if-is_ascii_digit.ensures.value));
      value = ap (λ (d : ℕ). n * 10 + d) c.from.ensures
          ∙ (ap (λ (m : ℕ). m * 10 + (get_or text i 0 - 48)) c.loop-len.invariant.value
          ∙ sym (number-more text i within));
      small = rw (add-one i) (one-longer n i c.from.result c.loop-len.invariant.small digit);
    }

pub returns-clause-small : goal.returns-clause-small
returns-clause-small c =
    eighteen-at-most c.loop-len.number c.loop-len.len c.loop-len.invariant.small
    (omega (arith, c.min-most.ensures, c.loop-len.invariant.within))

pub returns-clause-all : goal.returns-clause-all
returns-clause-all c =
    grind (arith, digits-in-front, then-loop-len-test+else-is_ascii_digit, no-more-in-front, else-loop-len-test, prefix_len-le-length)
