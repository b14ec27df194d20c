-- What `whole_of` gives, fault by fault.
use Rattle.std.proofs.Common.{◌≡◌, ◌∙◌, ℕ, List, [], ◌∷◌, refl, arith, Bool, true, false, cond, length, Some, None}
use Rattle.std.specs.Prelude.{◌==◌, ok_or, Err}
use Rattle.std.specs.Bool.{then_some}
use Rattle.pb_money.specs.Digits.{are_digits, number_of, up_to}
use Rattle.pb_money.proofs.Numbers.{is-empty}
use Rattle.pb_money.specs.Whole.{whole_of}
use Rattle.pb_money.specs.declared.whole.WholeFault.TheVariants as fault

pub whole-empty : (most : ℕ) (text : List ℕ) → (length text == 0) ≡ true → Err fault.Empty ≡ whole_of most text
unfolding whole_of
whole-empty most [] h = refl
whole-empty most (b ∷ bs) h = cc (is-empty (b ∷ bs) ∙ h)

pub whole-other : (most : ℕ) (text : List ℕ) → (length text == 0) ≡ false → are_digits text ≡ false
    → Err fault.NotDigits ≡ whole_of most text
unfolding whole_of
whole-other most [] h k = cc h
whole-other most (b ∷ bs) h k = rw k refl

pub some-if : (b : Bool) (n : ℕ) → then_some b n ≡ cond b (Some n) None
some-if true n = refl
some-if false n = refl

pub whole-digits : (most : ℕ) (text : List ℕ) → are_digits text ≡ true
    → ok_or (up_to most (number_of text)) fault.TooLarge ≡ whole_of most text
unfolding whole_of
whole-digits most text k = grind arith
