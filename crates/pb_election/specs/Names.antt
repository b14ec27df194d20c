-- Names: in small letters, among others, and cut out of a text.
use Rattle.std.specs.Prelude.{if◌then◌else◌, Bool, ℕ, List, [], ◌∷◌}
use Rattle.std.specs.List.{list_any}
use Rattle.std.specs.Str.{bytes_eq, str_to_ascii_lowercase}
use Rattle.pb_records.specs.Records.{Field}

-- a text with the letters A to Z as small letters
abbrev pub lower : Field → Field
lower f = str_to_ascii_lowercase f

-- whether a text is one of some texts
abbrev pub is_among : List Field → Field → Bool
is_among texts text = list_any (bytes_eq text) texts

-- the pieces of a text between the bytes that pass the test
unfoldable pub cut_at : (ℕ → Bool) → List ℕ → List (List ℕ)
cut_at test [] = [] ∷ []
cut_at test (b ∷ bs) = if test b then [] ∷ cut_at test bs else with_first b (cut_at test bs)
  where
    with_first : ℕ → List (List ℕ) → List (List ℕ)
    with_first b [] = (b ∷ []) ∷ []
    with_first b (piece ∷ pieces) = (b ∷ piece) ∷ pieces
