-- Lists that are kept one behind the other in one list, and where each starts in it.
use Rattle.std.specs.Prelude.{◌≡◌, ◌≤◌, ℕ, List, [], ◌∷◌}
use Rattle.std.specs.List.{between}

-- the list from a start up to the next, and so on
unfoldable pub cut_from : {A : Type 0} → ℕ → List ℕ → List A → List (List A)
cut_from start [] entries = []
cut_from start (next ∷ starts) entries = between start next entries ∷ cut_from next starts entries

-- the lists that stand between each two starts that follow one another
unfoldable pub cut_at_starts : {A : Type 0} → List ℕ → List A → List (List A)
cut_at_starts [] entries = []
cut_at_starts (start ∷ starts) entries = cut_from start starts entries

-- the numbers, from low on, do not fall, and end with high
abbrev pub Climb : ℕ → List ℕ → ℕ → Type 0
Climb low [] high = low ≡ high
Climb low (x ∷ xs) high = (low ≤ x) × Climb x xs high

-- the starts begin with 0, do not fall, and end with the length of the list
pub record AreStarts (starts : List ℕ) (length : ℕ) : Type 0 where
  pub others : List ℕ
  pub first : starts ≡ 0 ∷ others
  pub climb : Climb 0 others length
