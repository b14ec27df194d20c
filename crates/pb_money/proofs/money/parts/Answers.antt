use Rattle.std.proofs.Common.{◌∙◌, ap, sym}
use Rattle.std.specs.Prelude.{is_some}
use Rattle.pb_money.proofs.Marks.{is-some-then, number-alone, number-followed}
use Rattle.pb_money.proofs.money.parts.Goals as goal

pub returns-then-place-text-clause-number : goal.returns-then-place-text-clause-number
returns-then-place-text-clause-number c =
    number-alone c.args.text.now c.mark_place-place.result c.mark_place-place.ensures c.if-place-text.true
    (sym c.are_digits.ensures ∙ c.if-not-are_digits.false)

pub returns-clause-number : goal.returns-clause-number
returns-clause-number c =
    ap is_some c.then_some.ensures ∙ is-some-then c.are_digits-2.result _ ∙ c.are_digits-2.ensures
    ∙ number-followed c.args.text.now c.mark_place-place.result c.mark_place-place.ensures c.if-place-text.false
    (sym c.are_digits.ensures ∙ c.if-not-are_digits.false)
