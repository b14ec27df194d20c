-- Amounts of money, in millionths.
use Rattle.std.specs.Prelude.{◌≡◌, ◌≤◌, ◌+◌, ◌-◌, ◌*◌, ◌^◌, ◌==◌, ◌&&◌, ◌||◌, if◌then◌else◌, nat_lt, not, Bool, ℕ, List, [], ◌∷◌, ◌++◌, length, Result, Ok, Err, IsTrue}
use Rattle.std.specs.List.{before_first, after_first, list_any}
use Rattle.std.specs.Str.{byte}
use Rattle.pb_money.specs.Digits.{are_digits, drop_back, is_empty, number_of}
use Rattle.pb_money.specs.declared.money.MoneyFault.{MoneyFault}
use Rattle.pb_money.specs.declared.money.MoneyFault.TheVariants as fault

-- what may stand between the whole part and the fraction
abbrev pub is_mark : ℕ → Bool
is_mark b = (b == byte ".") || (b == byte ",")

-- The text is digits; or digits, a mark and digits. Its parts are the digits in front of the mark and those behind it,
-- of which there are none without a mark.
pub data NumberText : (text whole behind : List ℕ) → Type 0 where
  Plain : (whole : List ℕ) → IsTrue (are_digits whole) → NumberText whole whole []
  Marked : (whole : List ℕ) (mark : ℕ) (behind : List ℕ) → IsTrue (are_digits whole) → IsTrue (is_mark mark)
      → IsTrue (are_digits behind) → NumberText (whole ++ mark ∷ behind) whole behind

-- digits without the zeros at their end
abbrev pub without_last_zeros : List ℕ → List ℕ
without_last_zeros digits = drop_back (λ b. b == byte "0") digits

-- the value of a number with these parts, whose fraction has at most six digits, in millionths
abbrev pub value_of : List ℕ → List ℕ → ℕ
value_of whole behind =
    let fraction = without_last_zeros behind in
    number_of whole * 10 ^ 6 + number_of fraction * 10 ^ (6 - length fraction)

-- a million million, in millionths
abbrev pub most_money : ℕ
most_money = 10 ^ 18

-- the text is an amount, of v millionths
pub record MoneyText (text : List ℕ) (v : ℕ) : Type 0 where
  pub whole : List ℕ
  pub behind : List ℕ
  pub number : NumberText text whole behind
  pub fine : length (without_last_zeros behind) ≤ 6
  pub value : v ≡ value_of whole behind
  pub small : v ≤ most_money

-- whether the text is a number, by what stands in front of its first mark and behind it
abbrev pub is_number : List ℕ → Bool
is_number text =
    are_digits (before_first is_mark text) && (not (list_any is_mark text) || are_digits (after_first is_mark text))

-- the digits behind the mark without the zeros at their end
abbrev pub fraction : List ℕ → List ℕ
fraction text = without_last_zeros (after_first is_mark text)

-- the value of a number as a text, in millionths
unfoldable pub millionths : List ℕ → ℕ
millionths text = value_of (before_first is_mark text) (after_first is_mark text)

-- the text is an amount
abbrev pub IsMoney : List ℕ → Type 0
IsMoney text = MoneyText text (millionths text)

-- the amount that a text states, or else the first fault in this order
unfoldable pub money_of : List ℕ → Result ℕ MoneyFault
money_of text =
    if is_empty text then Err fault.Empty
    else if not (is_number text) then Err fault.NotNumber
    else if nat_lt 6 (length (fraction text)) then Err fault.TooFine
    else if nat_lt most_money (millionths text) then Err fault.TooLarge
    else Ok (millionths text)
