-- Digits, and what is dropped at the ends of a text. A text is the list of its bytes.
use Rattle.std.specs.Prelude.{◌+◌, ◌*◌, ◌-◌, ◌&&◌, if◌then◌else◌, nat_le, not, Bool, true, false, ℕ, List, [], ◌∷◌, Option, Some, None}
use Rattle.std.specs.List.{fold}
use Rattle.std.specs.Str.{all_ascii_digits, byte}

-- whether a list has no elements
abbrev pub is_empty : {A : Type 0} → List A → Bool
is_empty [] = true
is_empty (x ∷ xs) = false

-- a text without the bytes at its front that pass the test
unfoldable pub drop_front : (ℕ → Bool) → List ℕ → List ℕ
drop_front test [] = []
drop_front test (b ∷ bs) = if test b then drop_front test bs else b ∷ bs

-- a text without the bytes at its end that pass the test
unfoldable pub drop_back : (ℕ → Bool) → List ℕ → List ℕ
drop_back test [] = []
drop_back test (b ∷ bs) = if test b && is_empty (drop_back test bs) then [] else b ∷ drop_back test bs

-- one or more digits
abbrev pub are_digits : List ℕ → Bool
are_digits text = not (is_empty text) && all_ascii_digits text

-- the number that digits state, and 0 where there are none
abbrev pub number_of : List ℕ → ℕ
number_of digits = fold (λ n d. n * 10 + (d - byte "0")) 0 digits

-- a number, where it is at most so large
abbrev pub up_to : ℕ → ℕ → Option ℕ
up_to most n = if nat_le n most then Some n else None
