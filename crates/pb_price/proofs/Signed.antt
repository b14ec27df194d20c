-- Sums of integers over the numbers of a range that pass a test, and how many pass.
use mir.Syntax.{w128}
use mir.Val.{SFits, of_z, to_z}
use Rattle.std.proofs.Common.{◌≡◌, ℕ, zero, suc, ◌+◌, ◌*◌, ◌^◌, ◌<◌, ◌≤◌, Bool, cond, List, [], ◌∷◌, ◌++◌, length, refl, ◌∙◌, ap, arith, length-append}
use Rattle.std.specs.Prelude.{ℤ, pos, neg_ℤ, ◌+ℤ◌, ◌≤ℤ◌, filter}
use Rattle.std.specs.List.{range_with_len}
use Rattle.std.proofs.lemmas.Int.{ints, to_z-of_z}
use Rattle.pb_cohesion.specs.Conditions.{sum_ℤ}
use Rattle.pb_price.specs.Inside.Tallies.{IsWithin}
use Rattle.pb_cohesion.proofs.Loops.{filter-failing, filter-passing}

-- equal terms have equal sums
pub signed-same : (f g : ℕ → ℤ) (q : ℕ → Bool) (a n : ℕ) → ((j : ℕ) → a ≤ j → j < a + n → f j ≡ g j)
    → sum_ℤ f (filter q (range_with_len a n)) ≡ sum_ℤ g (filter q (range_with_len a n))
signed-same f g q a zero h = refl
signed-same f g q a (suc n) h = grind (arith, signed-same f g q (a + 1) n)

-- one more number
add-assoc : (x y z : ℤ) → x +ℤ (y +ℤ z) ≡ (x +ℤ y) +ℤ z
add-assoc x y z = omega (arith, ints)

add-zero : (x : ℤ) → x +ℤ pos 0 ≡ pos 0 +ℤ x
add-zero x = omega (arith, ints)

signed-push : (f : ℕ → ℤ) (xs : List ℕ) (x : ℕ) → sum_ℤ f (xs ++ (x ∷ [])) ≡ sum_ℤ f xs +ℤ f x
signed-push f [] x = add-zero (f x)
signed-push f (y ∷ ys) x = ap (λ z. f y +ℤ z) (signed-push f ys x) ∙ add-assoc (f y) (sum_ℤ f ys) (f x)

pub signed-next : (f : ℕ → ℤ) (q : ℕ → Bool) (n : ℕ) (old : ℤ) (b : Bool) → q (n + 1) ≡ b
    → old ≡ sum_ℤ f (filter q (range_with_len 1 n))
    → cond b (old +ℤ f (n + 1)) old ≡ sum_ℤ f (filter q (range_with_len 1 (n + 1)))
signed-next f q n old b is h = grind (arith, signed-push, filter-passing, filter-failing)

pub count-next : (q : ℕ → Bool) (n old : ℕ) (b : Bool) → q (n + 1) ≡ b → old ≡ length (filter q (range_with_len 1 n))
    → cond b (old + 1) old ≡ length (filter q (range_with_len 1 (n + 1)))
count-next q n old b is h = grind (arith, length-append, filter-passing, filter-failing)

-- bounds
pub count-most : (q : ℕ → Bool) (a n : ℕ) → length (filter q (range_with_len a n)) ≤ n
count-most q a zero = omega arith
count-most q a (suc n) = grind (arith, count-most q (a + 1) n)

-- terms from -10^32 to 10^32
pub signed-most : (f : ℕ → ℤ) (xs : List ℕ) → ((j : ℕ) → (neg_ℤ (pos (10 ^ 32)) ≤ℤ f j) × (f j ≤ℤ pos (10 ^ 32)))
    → (neg_ℤ (pos (length xs * 10 ^ 32)) ≤ℤ sum_ℤ f xs) × (sum_ℤ f xs ≤ℤ pos (length xs * 10 ^ 32))
signed-most f [] h = (omega (arith, ints), omega (arith, ints))
signed-most f (x ∷ xs) h = grind (arith, signed-most f xs h)

-- what fits in 128 bits with a sign
pub within-fits : (n : ℕ) (z : ℤ) → IsWithin n z → n < 2 ^ 127 → SFits w128 z
within-fits n z h small = grind arith

pub small-kept : (z : ℤ) → IsWithin (10 ^ 32) z → to_z w128 (of_z w128 z) ≡ z
small-kept z h = to_z-of_z w128 z (within-fits (10 ^ 32) z h (omega arith))

pub kept-sum-fits : (x y : ℤ) → IsWithin (10 ^ 38) x → IsWithin (10 ^ 32) y
    → SFits w128 (to_z w128 (of_z w128 x) +ℤ to_z w128 (of_z w128 y))
kept-sum-fits x y h k = grind arith

pub kept-sum : (x y : ℤ) → IsWithin (10 ^ 38) x → IsWithin (10 ^ 32) y
    → to_z w128 (of_z w128 (to_z w128 (of_z w128 x) +ℤ to_z w128 (of_z w128 y))) ≡ x +ℤ to_z w128 (of_z w128 y)
kept-sum x y h k = grind arith
