-- How text stands in markup: the five bytes that mean something there are written as references.
use Rattle.std.specs.Prelude.{◌≢◌, ◌==◌, ◌||◌, if◌then◌else◌, ℕ, Bool, List, [], ◌∷◌, codes}
use Rattle.std.specs.List.{flat_map}

-- a byte as it is written
abbrev pub escape : ℕ → List ℕ
escape b =
    if b == 60 then codes "&lt;"
    else if b == 62 then codes "&gt;"
    else if b == 38 then codes "&amp;"
    else if b == 34 then codes "&quot;"
    else if b == 39 then codes "&#39;"
    else b ∷ []

-- a text, byte by byte
unfoldable pub escaped : List ℕ → List ℕ
escaped bytes = flat_map escape bytes

-- a byte that begins no tag and ends no attribute
pub record IsPlain (b : ℕ) : Type 0 where
  pub no_less : b ≢ 60
  pub no_greater : b ≢ 62
  pub no_quote : b ≢ 34
  pub no_apostrophe : b ≢ 39

-- a byte that is escaped, and the byte with which each escape begins
abbrev pub is_special : ℕ → Bool
is_special b = (b == 60) || ((b == 62) || ((b == 38) || ((b == 34) || (b == 39))))

abbrev pub is_ampersand : ℕ → Bool
is_ampersand b = b == 38
