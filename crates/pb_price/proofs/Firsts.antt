-- The first voter over its budget, the first payment for a project that is not approved, and the first number that
-- passes a test, as they are kept.
use Rattle.std.proofs.Common.{◌≡◌, ℕ, ◌+◌, Bool, List, [], ◌∷◌, ◌++◌, arith}
use Rattle.std.specs.Prelude.{Option, filter, slice_get}
use Rattle.std.specs.List.{range_with_len}
use Rattle.std.proofs.lemmas.List.Elements.{filter-append}
use Rattle.pb_cohesion.proofs.Firsts.{first-left, none-first, range-next}
use Rattle.pb_price.specs.Inside.Noted.{first_number}

-- one more number of a range
number-append : (q : ℕ → Bool) (xs : List ℕ) (j : ℕ) (o : Option ℕ) → o ≡ slice_get (filter q xs) 0
    → first_number o (q j) j ≡ slice_get (filter q xs ++ filter q (j ∷ [])) 0
number-append q xs j o h = grind (arith, none-first, first-left)

pub number-next : (q : ℕ → Bool) (n : ℕ) (o : Option ℕ) → o ≡ slice_get (filter q (range_with_len 1 n)) 0
    → first_number o (q (n + 1)) (n + 1) ≡ slice_get (filter q (range_with_len 1 (n + 1))) 0
number-next q n o h = grind (arith, number-append, filter-append, range-next)
