-- The orders in which a page shows projects.
use Rattle.std.specs.Prelude.{◌+◌, ◌-◌, ◌^◌, not, min, if◌then◌else◌, ℕ, ℤ, pos, ◌-ℤ◌, Bool, true, List, [], ◌∷◌, ◌++◌, IsPermutation, IsSorted}
use Rattle.std.specs.Int.{abs_diff, saturate_signed, w128}
use Rattle.std.specs.Ordering.{int_cmp, nat_cmp, ordering_then}
use Rattle.std.specs.declared.cmp.Ordering.{Ordering}
use Rattle.pb_cohesion.specs.declared.GroupFigures.{GroupFigures}
use Rattle.pb_price.specs.declared.ProjectMargins.{ProjectMargins}

-- of what is numbered from j, what is kept of that for which something holds, in its order
abbrev pub numbered : {A X : Type 0} → (A → Bool) → (A → ℕ → X) → ℕ → List A → List X
numbered holds kept j [] = []
numbered holds kept j (m ∷ ms) = (if holds m then kept m j ∷ [] else []) ++ numbered holds kept (j + 1) ms

-- what the supporters of a project have left together, or in the stable form can offer
abbrev pub has : Bool → ProjectMargins → ℤ
has stable m = if stable then m.offer else m.left

-- what they miss to its cost, and less than nothing where they have more; no sum of an election is beyond 2^127
abbrev pub missing : Bool → ProjectMargins → ℤ
missing stable m = saturate_signed w128 (pos (min m.cost (2 ^ 127 - 1)) -ℤ has stable m)

-- the unfunded projects by their numbers, each behind what its supporters miss
abbrev pub unfunded : Bool → List ProjectMargins → List (ℤ × ℕ)
unfunded stable ms = numbered (λ m. not m.funded) (λ m j. (missing stable m, j)) 1 ms

-- the least first, and of two that are alike the lower number
abbrev pub by_missing : ℤ × ℕ → ℤ × ℕ → Ordering
by_missing x y = ordering_then (int_cmp x.0 y.0) (nat_cmp x.1 y.1)

-- what a number is short of the largest, by which the largest comes first
abbrev pub short : ℕ → ℕ
short x = 2 ^ 128 - 1 - x

-- the funded projects by their numbers, each behind how far what is paid for it is from its cost, and behind its cost,
-- by which the largest come first
abbrev pub funded : List ProjectMargins → List (ℕ × ℕ × ℕ)
funded ms = numbered (λ m. m.funded) (λ m j. (short (abs_diff m.paid m.cost), short m.cost, j)) 1 ms

-- and of two that are alike the lower number
abbrev pub by_size : ℕ × ℕ × ℕ → ℕ × ℕ × ℕ → Ordering
by_size x y = ordering_then (ordering_then (nat_cmp x.0 y.0) (nat_cmp x.1 y.1)) (nat_cmp x.2 y.2)

-- the groups of projects by their rows, each behind what comes before it: of those that fall short the largest come first,
-- and those that don't come last
abbrev pub group_rank : GroupFigures → ℕ
group_rank x = if x.falls_short then 2 ^ 32 - 1 - x.voters else 2 ^ 32 - 1

abbrev pub groups : List GroupFigures → List (ℕ × ℕ)
groups xs = numbered (λ x. true) (λ x j. (group_rank x, j)) 1 xs

-- and of two that are alike that of the lower row
abbrev pub by_group : ℕ × ℕ → ℕ × ℕ → Ordering
by_group x y = ordering_then (nat_cmp x.0 y.0) (nat_cmp x.1 y.1)

-- the same in another order, in which none comes before the one ahead of it
abbrev pub AreRanked : {X : Type 0} → (X → X → Ordering) → List X → List X → Type 0
AreRanked order listed ranked = IsPermutation listed ranked × IsSorted order ranked
