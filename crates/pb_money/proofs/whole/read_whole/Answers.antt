use Rattle.std.proofs.Common.{◌≡◌, ◌∙◌, ap, sym}
use Rattle.pb_money.specs.Digits.{number_of, up_to}
use Rattle.std.specs.Prelude.{nat_le, ok_or}
use Rattle.pb_money.proofs.Wholes.{some-if, whole-digits, whole-empty, whole-other}
use Rattle.pb_money.specs.declared.whole.WholeFault.TheVariants as fault
use Rattle.pb_money.proofs.whole.read_whole.Goals.{in-Some, in-None-2}
use Rattle.pb_money.proofs.whole.read_whole.Goals as goal

pub returns-then-is_empty-clause-exact : goal.returns-then-is_empty-clause-exact
returns-then-is_empty-clause-exact c =
    whole-empty c.args.most c.args.text.now (sym c.is_empty.ensures ∙ c.if-is_empty.true)

pub returns-in-None-clause-exact : goal.returns-in-None-clause-exact
returns-in-None-clause-exact c =
    whole-other c.args.most c.args.text.now (sym c.is_empty.ensures ∙ c.if-is_empty.false)
    (sym c.are_digits.ensures ∙ c.if-not-are_digits.true)

pub returns-clause-exact : goal.returns-clause-exact
returns-clause-exact c =
    elim c.match-short_number.branch [
      | in-Some w ↦
          let number : c.match-short_number.number ≡ up_to c.args.most (number_of c.args.text.now) =
          w.number-is
          ∙ (w.then_some-number.ensures
          ∙ (some-if (nat_le w.in-Some.short c.args.most) w.in-Some.short
          ∙ ap (up_to c.args.most) w.in-Some.ensures.value)) in
          c.ok_or.ensures.value
          ∙ (ap (λ r. ok_or r fault.TooLarge) number
          ∙ whole-digits c.args.most c.args.text.now w.in-Some.ensures.digits)
      | in-None-2 w ↦
          c.ok_or.ensures.value ∙ (ap (λ r. ok_or r fault.TooLarge) (w.number-is ∙ w.long_number_up_to-number.ensures)
          ∙ whole-digits c.args.most c.args.text.now (sym w.are_digits.ensures ∙ w.if-not-are_digits.false))
    ]
