-- Numbers in a row, what passes a test among them, and lists that are cut.
use Rattle.std.proofs.Common.{◌≡◌, ◌∙◌, ℕ, zero, suc, ◌+◌, ◌<◌, ◌≤◌, Bool, false, List, [], ◌∷◌, ◌++◌, length, Option, Some, refl, sym, ap, arith}
use Rattle.std.specs.Prelude.{filter, filter_map, map, slice_get, sum_by}
use Rattle.std.specs.List.{AllByRecursion, range_with_len}
use Rattle.std.proofs.lemmas.List.{map-append}
use Rattle.std.proofs.lemmas.List.Sums.{sum_by-cons}

-- one more number
pub range-push : (a n : ℕ) → range_with_len a (suc n) ≡ range_with_len a n ++ ((a + n) ∷ [])
range-push a zero = let e : a ≡ a + 0 = omega arith in ap (λ k. k ∷ []) e
range-push a (suc n) = grind (arith, range-push (a + 1) n)

-- two tests that agree on the numbers pass the same ones
pub filter-same : (p q : ℕ → Bool) (n a : ℕ) → ((j : ℕ) → a ≤ j → j < a + n → p j ≡ q j)
    → filter p (range_with_len a n) ≡ filter q (range_with_len a n)
filter-same p q zero a h = refl
filter-same p q (suc n) a h = grind (arith, filter-same p q n (a + 1))

pub filter-none : (q : ℕ → Bool) (n a : ℕ) → ((j : ℕ) → a ≤ j → j < a + n → q j ≡ false)
    → filter q (range_with_len a n) ≡ []
filter-none q zero a h = refl
filter-none q (suc n) a h = grind (arith, filter-none q n (a + 1))

-- two functions that agree on the numbers map them to the same
pub map-same : {A : Type 0} (f g : ℕ → A) (n a : ℕ) → ((j : ℕ) → a ≤ j → j < a + n → f j ≡ g j)
    → map f (range_with_len a n) ≡ map g (range_with_len a n)
map-same f g zero a h = refl
map-same f g (suc n) a h = grind (arith, map-same f g n (a + 1))

-- what one more element gives
pub map-push-by : {A B C : Type 0} (f : A → C) (g : B → C) (xs : List A) (x : A) (ys : List B) (y : B)
    → map f xs ≡ map g ys → f x ≡ g y → map f (xs ++ (x ∷ [])) ≡ map g (ys ++ (y ∷ []))
map-push-by f g xs x ys y h k = grind (arith, map-append)

-- where an element that gives the one gives the other
pub map-link : {A B C D : Type 0} (P : B → Type 0) (f : A → C) (g : B → C) (h : A → D) (k : B → D)
    → ((x : A) (y : B) → P y → f x ≡ g y → h x ≡ k y) → (xs : List A) (ys : List B) → AllByRecursion P ys
    → map f xs ≡ map g ys → map h xs ≡ map k ys
map-link P f g h k link [] [] all same = refl
map-link P f g h k link [] (y ∷ ys) all same = cc same
map-link P f g h k link (x ∷ xs) [] all same = cc same
map-link P f g h k link (x ∷ xs) (y ∷ ys) all same =
    let first : f x ≡ g y = cc same in
    let rest : map f xs ≡ map g ys = cc same in
    rw (link x y all.0 first, map-link P f g h k link xs ys all.1 rest) refl

-- what holds of each that is given
pub map-each : {A B C : Type 0} (P : B → Type 0) (f : A → C) (g : B → C) → ((x : A) (y : B) → f x ≡ g y → P y)
    → (xs : List A) (ys : List B) → map f xs ≡ map g ys → AllByRecursion P ys
map-each P f g holds xs [] same = tt
map-each P f g holds [] (y ∷ ys) same = cc same
map-each P f g holds (x ∷ xs) (y ∷ ys) same =
    let first : f x ≡ g y = cc same in
    let rest : map f xs ≡ map g ys = cc same in
    (holds x y first, map-each P f g holds xs ys rest)

-- where each element states something, that is all that they state
pub filter_map-all : {A B : Type 0} (f : A → Option B) (xs : List A) (ys : List B) → map f xs ≡ map Some ys
    → filter_map f xs ≡ ys
filter_map-all f [] [] h = refl
filter_map-all f [] (y ∷ ys) h = cc h
filter_map-all f (x ∷ xs) [] h = cc h
filter_map-all f (x ∷ xs) (y ∷ ys) h =
    let first : f x ≡ Some y = cc in
    let rest : map f xs ≡ map Some ys = cc in
    rw first (ap (λ (zs : List _). y ∷ zs) (filter_map-all f xs ys rest))

pub sum-mapped : {A B : Type 0} (f : B → ℕ) (g : A → B) (xs : List A) → sum_by f (map g xs) ≡ sum_by (λ x. f (g x)) xs
sum-mapped f g [] = refl
sum-mapped f g (x ∷ xs) = sum_by-cons f (g x) (map g xs) ∙ ap (λ n. f (g x) + n) (sum-mapped f g xs)
    ∙ sym (sum_by-cons (λ y. f (g y)) x xs)

-- the first element behind a cut
pub get-seam : {A : Type 0} (xs ys : List A) (y : A) → slice_get (xs ++ y ∷ ys) (length xs) ≡ Some y
get-seam [] ys y = refl
get-seam (x ∷ xs) ys y = get-seam xs ys y
