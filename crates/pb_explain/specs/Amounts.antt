-- How amounts are written: exactly, and never rounded.
use Rattle.std.specs.Prelude.{◌==◌, ◌&&◌, ◌/◌, ◌%◌, ◌^◌, if◌then◌else◌, ℕ, ℤ, pos, int_lt, [], ◌++◌, codes, decimal, unsigned_abs, zero, suc}
use Rattle.std.specs.List.{range_with_len}
use Rattle.pb_records.specs.Records.{Text}
use Rattle.pb_cohesion.specs.Amounts.{largest_by}

-- the last n digits of a number
unfoldable pub last_digits : ℕ → ℕ → Text
last_digits zero x = []
last_digits (suc n) x = last_digits n (x / 10) ++ decimal (x % 10)

-- the places behind the point of so many millionths, less than a million: as few as state them, but two at least
abbrev pub places : ℕ → Text
places m =
    if m % 10 ^ 4 == 0 then last_digits 2 (m / 10 ^ 4)
    else if m % 10 ^ 3 == 0 then last_digits 3 (m / 10 ^ 3)
    else if m % 10 ^ 2 == 0 then last_digits 4 (m / 10 ^ 2)
    else if m % 10 == 0 then last_digits 5 (m / 10)
    else last_digits 6 m

-- millionths of a unit as a decimal
abbrev pub decimal_amount : ℕ → Text
decimal_amount m = decimal (m / 10 ^ 6) ++ codes "." ++ places (m % 10 ^ 6)

-- the largest number from 1 to b that divides both
unfoldable pub greatest_common_divisor : ℕ → ℕ → ℕ
greatest_common_divisor a b = largest_by (λ k. if (a % k == 0) && (b % k == 0) then k else 0) (range_with_len 1 b)

-- a of b parts as a fraction in lowest terms
abbrev pub lowest_terms : ℕ → ℕ → Text
lowest_terms a b = decimal (a / greatest_common_divisor a b) ++ codes "/" ++ decimal (b / greatest_common_divisor a b)

-- a whole number of units, where there is one, and a fraction of a unit
abbrev pub whole_words : ℕ → Text
whole_words n = if n == 0 then [] else decimal n ++ codes " "

abbrev pub mixed_number : ℕ → ℕ → Text
mixed_number grains_per_unit g = whole_words (g / grains_per_unit) ++ lowest_terms (g % grains_per_unit) grains_per_unit

-- so many grains, in units, where a unit has a multiple of a million grains: a decimal where one of at most six places
-- states them, and else a whole number and a fraction
unfoldable pub amount : ℕ → ℕ → Text
amount grains_per_unit g =
    if g % (grains_per_unit / 10 ^ 6) == 0 then decimal_amount (g / (grains_per_unit / 10 ^ 6))
    else mixed_number grains_per_unit g

-- the same of an amount that may be negative, behind its sign
abbrev pub sign : ℤ → Text
sign z = if int_lt z (pos 0) then codes "-" else []

unfoldable pub balance : ℕ → ℤ → Text
balance grains_per_unit z = sign z ++ amount grains_per_unit (unsigned_abs z)
