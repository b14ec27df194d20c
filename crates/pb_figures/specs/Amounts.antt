-- How amounts are shown.
use Rattle.std.specs.Prelude.{◌==◌, ◌&&◌, ◌+◌, ◌*◌, ◌/◌, ◌%◌, not, nat_lt, max, if◌then◌else◌, ℕ, ℤ, pos, int_lt, List, [], ◌∷◌, ◌++◌, false, decimal, unsigned_abs, zero, suc}
use Rattle.pb_figures.specs.declared.amounts.Balance.{Balance}
use Rattle.pb_figures.specs.declared.amounts.Style.{Style}
use Rattle.pb_words.specs.Languages.{decimal_sign}
use Rattle.pb_words.specs.declared.language.Language.{Language}

-- an amount that isn't negative, and one that may be
abbrev pub of : ℕ → Balance
of grains = record { negative = false; grains = grains }

abbrev pub nothing : Balance
nothing = of 0

abbrev pub signed : ℤ → Balance
signed z = record { negative = int_lt z (pos 0); grains = unsigned_abs z }

-- in UTF-8 the minus sign, the narrow space between thousands, and the ellipsis behind an amount that is cut
abbrev pub minus : List ℕ
minus = 226 ∷ 136 ∷ 146 ∷ []

abbrev pub narrow_space : List ℕ
narrow_space = 226 ∷ 128 ∷ 175 ∷ []

abbrev pub ellipsis : List ℕ
ellipsis = 226 ∷ 128 ∷ 166 ∷ []

-- a whole number with spaces before its last n threes of digits, as many as it has
unfoldable pub groups : ℕ → ℕ → List ℕ
groups zero x = decimal x
groups (suc n) x =
    if nat_lt x 1000 then decimal x
    else groups n (x / 1000) ++ (narrow_space ++ (decimal (x / 100 % 10) ++ (decimal (x / 10 % 10) ++ decimal (x % 10))))

-- a number of at most 40 digits
abbrev pub grouped : ℕ → List ℕ
grouped x = groups 13 x

-- the first n decimals of so many grains, fewer than a unit has, with the ellipsis where that isn't all
unfoldable pub places : ℕ → ℕ → ℕ → List ℕ
places zero unit grains = if grains == 0 then [] else ellipsis
places (suc n) unit grains = decimal (grains * 10 / unit) ++ places n unit (grains * 10 % unit)

abbrev pub decimals : Language → ℕ → ℕ → ℕ → List ℕ
decimals language count unit grains =
    (if count == 0 then [] else decimal_sign language) ++ places count unit grains

-- which of the first n decimals of so many grains, fewer than a unit has, is the first that isn't 0
unfoldable pub first_place : ℕ → ℕ → ℕ → ℕ
first_place zero unit grains = 0
first_place (suc n) unit grains = if nat_lt (grains * 10) unit then 1 + first_place n unit (grains * 10) else 1

-- how many decimals an amount has where so many are usual: as many as it takes for its first digit that isn't 0, unless
-- it is nothing; a grain is at least the 2^64th part of a unit, so that this is one of 20
abbrev pub count_of_places : ℕ → ℕ → ℕ → ℕ → ℕ
count_of_places usual unit whole rest =
    if (whole == 0) && not (rest == 0) then max usual (first_place 20 unit rest) else usual

-- an amount of so many units and grains, fewer than a unit has
abbrev pub parts_text : Style → ℕ → ℕ → ℕ → List ℕ
parts_text style unit whole rest =
    grouped whole ++ decimals style.language (count_of_places style.decimals unit whole rest) unit rest

-- an amount, where one unit of the currency has so many grains
abbrev pub amount_text : Style → ℕ → Balance → List ℕ
amount_text style unit amount =
    (if amount.negative then minus else [])
    ++ parts_text style (max unit 1) (amount.grains / max unit 1) (amount.grains % max unit 1)
