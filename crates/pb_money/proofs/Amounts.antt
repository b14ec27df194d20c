-- What `money_of` gives, fault by fault.
use Rattle.std.proofs.Common.{◌≡◌, ◌≤◌, ◌<◌, ◌∙◌, ◌+◌, ◌*◌, ◌-◌, ◌^◌, ℕ, List, [], ◌∷◌, refl, arith, true, false, length}
use Rattle.std.proofs.lemmas.Bool.{lt-ltb}
use Rattle.std.specs.List.{before_first}
use Rattle.std.specs.Prelude.{◌==◌, Err}
use Rattle.pb_money.specs.Digits.{number_of}
use Rattle.pb_money.specs.Money.{fraction, is_mark, is_number, millionths, money_of, most_money}
use Rattle.pb_money.specs.declared.money.MoneyFault.TheVariants as fault
use Rattle.pb_money.proofs.Numbers.{is-empty}

pub money-empty : (text : List ℕ) → (length text == 0) ≡ true → Err fault.Empty ≡ money_of text
unfolding money_of
money-empty [] h = refl
money-empty (b ∷ bs) h = cc (is-empty (b ∷ bs) ∙ h)

pub money-other : (text : List ℕ) → (length text == 0) ≡ false → is_number text ≡ false
    → Err fault.NotNumber ≡ money_of text
unfolding money_of
money-other [] h k = cc h
money-other (b ∷ bs) h k = rw k refl

pub money-fine : (text : List ℕ) → is_number text ≡ true → 6 < length (fraction text)
    → Err fault.TooFine ≡ money_of text
unfolding money_of
money-fine [] k h = cc k
money-fine (b ∷ bs) k h = rw (k, lt-ltb 6 (length (fraction (b ∷ bs))) h) refl

pub money-large : (text : List ℕ) → is_number text ≡ true → length (fraction text) ≤ 6 → most_money < millionths text
    → Err fault.TooLarge ≡ money_of text
unfolding money_of
money-large text k h l = grind arith

pub ruleset amount_faults = (money-empty, money-other, money-fine)

-- more whole units than the greatest amount has
pub units-large : (text : List ℕ) (n : ℕ) → n ≡ number_of (before_first is_mark text) → 10 ^ 12 < n
    → most_money < millionths text
unfolding millionths
units-large text n e h = omega arith

pub parts-value : (text : List ℕ) (units part : ℕ) → units ≡ number_of (before_first is_mark text)
    → part ≡ number_of (fraction text) * 10 ^ (6 - length (fraction text)) → units * 10 ^ 6 + part ≡ millionths text
unfolding millionths
parts-value text units part e f = omega arith
