-- A text as it is shown, with what can't be seen as its number.
use Rattle.std.specs.Prelude.{ℕ, Bool, false, List, [], ◌∷◌, ◌++◌, ◌&&◌, ◌||◌, not, codes, if◌then◌else◌, slice_index_or}
use Rattle.std.specs.Fmt.{digits}
use Rattle.pb_visible.specs.Hidden.{is_hidden}
use Rattle.pb_visible.specs.Joiners.{is_joiner, is_non_joiner, is_spelling}

-- as \u{202e}
unfoldable pub number : ℕ → List ℕ
number c = codes "\\u{" ++ (digits 16 false c ++ codes "}")

-- a character between two others
unfoldable pub shown : ℕ → ℕ → ℕ → List ℕ
shown before c after = if is_hidden c && not (is_spelling before c after) then number c else c ∷ []

-- the characters of a text behind one more, where 0 stands for its two ends
unfoldable pub visible_behind : ℕ → List ℕ → List ℕ
visible_behind before [] = []
visible_behind before (c ∷ cs) = shown before c (slice_index_or cs 0 0) ++ visible_behind c cs

abbrev pub visible_chars : List ℕ → List ℕ
visible_chars cs = visible_behind 0 cs

-- what a text that is shown doesn't have
abbrev pub is_lost : ℕ → Bool
is_lost c = is_hidden c && not (is_joiner c || is_non_joiner c)
