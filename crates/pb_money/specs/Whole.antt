-- Whole numbers.
use Rattle.std.specs.Prelude.{◌≡◌, if◌then◌else◌, nat_lt, not, ℕ, List, Result, Ok, Err, IsTrue}
use Rattle.pb_money.specs.Digits.{are_digits, is_empty, number_of}
use Rattle.pb_money.specs.declared.whole.WholeFault.{WholeFault}
use Rattle.pb_money.specs.declared.whole.WholeFault.TheVariants as fault

-- the text is a whole number: one or more digits, which state n
pub record WholeText (text : List ℕ) (n : ℕ) : Type 0 where
  pub digits : IsTrue (are_digits text)
  pub value : n ≡ number_of text

-- the whole number that a text states, if it is at most as large as wanted, or else the first fault in this order
unfoldable pub whole_of : ℕ → List ℕ → Result ℕ WholeFault
whole_of most text =
    if is_empty text then Err fault.Empty
    else if not (are_digits text) then Err fault.NotDigits
    else if nat_lt most (number_of text) then Err fault.TooLarge
    else Ok (number_of text)
