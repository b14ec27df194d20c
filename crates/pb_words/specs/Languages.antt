-- The languages of a page: their codes, and how they write amounts.
use Rattle.std.specs.Prelude.{if◌then◌else◌, ℕ, List, Option, Some, None, codes}
use Rattle.std.specs.Str.{bytes_eq}
use Rattle.pb_words.specs.declared.language.Language.{Language}
use Rattle.pb_words.specs.declared.language.Language.TheVariants.{English, French, German, Polish}

abbrev pub language_of : List ℕ → Option Language
language_of code =
    if bytes_eq code (codes "en") then Some English
    else if bytes_eq code (codes "pl") then Some Polish
    else if bytes_eq code (codes "de") then Some German
    else if bytes_eq code (codes "fr") then Some French
    else None

-- what stands before the decimals of an amount
abbrev pub decimal_sign : Language → List ℕ
decimal_sign English = codes "."
decimal_sign Polish = codes ","
decimal_sign German = codes ","
decimal_sign French = codes ","
