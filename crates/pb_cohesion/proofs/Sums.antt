-- Sums over lists, over ranges and over sets of numbers.
use Rattle.std.proofs.Common.{◌≡◌, ℕ, zero, suc, ◌+◌, ◌*◌, ◌<◌, ◌≤◌, Bool, true, false, cond, List, [], ◌∷◌, length, refl, sym, ◌∙◌, ap, subst, inl, inr, arith}
use Rattle.std.specs.Prelude.{sum_by, filter, ◌==◌}
use Rattle.std.specs.List.{range_with_len, list_any, AllByRecursion}
use Rattle.std.proofs.lemmas.List.Sums.{sum_by-cons}
use Rattle.std.proofs.lemmas.Bool.{cases_eq, cases_Bool, or_cases, false≢true, eqb-true, eq-eqb, ne_eqb}
use Rattle.std.proofs.Math.Nat.{mul-add, mul_comm, mul-zero}
use Rattle.pb_election.specs.Instance.{IsSet}

-- a sum of larger terms is larger
pub sum-le : (f g : ℕ → ℕ) (xs : List ℕ) → AllByRecursion (λ x. f x ≤ g x) xs → sum_by f xs ≤ sum_by g xs
sum-le f g [] h = omega arith
sum-le f g (x ∷ xs) h = let here : f x ≤ g x = h.0 in let rest : sum_by f xs ≤ sum_by g xs = sum-le f g xs h.1 in
    omega (arith, sum_by-cons f x xs, sum_by-cons g x xs)

-- equal terms have equal sums
pub sum-same : (f g : ℕ → ℕ) (xs : List ℕ) → AllByRecursion (λ x. f x ≡ g x) xs → sum_by f xs ≡ sum_by g xs
sum-same f g [] h = refl
sum-same f g (x ∷ xs) h = let here : f x ≡ g x = h.0 in let rest : sum_by f xs ≡ sum_by g xs = sum-same f g xs h.1 in
    omega (arith, sum_by-cons f x xs, sum_by-cons g x xs)

-- a sum of sums
pub sum-add : (f g : ℕ → ℕ) (xs : List ℕ) → sum_by (λ x. f x + g x) xs ≡ sum_by f xs + sum_by g xs
sum-add f g [] = refl
sum-add f g (x ∷ xs) =
    omega (arith, sum-add f g xs, sum_by-cons f x xs, sum_by-cons g x xs, sum_by-cons (λ y. f y + g y) x xs)

pub sum-zero : (xs : List ℕ) → sum_by (λ x. 0) xs ≡ 0
sum-zero [] = refl
sum-zero (x ∷ xs) = omega (arith, sum-zero xs, sum_by-cons (λ y. 0) x xs)

-- a sum of multiples
pub sum-mul : (k : ℕ) (f : ℕ → ℕ) (xs : List ℕ) → sum_by (λ x. k * f x) xs ≡ k * sum_by f xs
sum-mul k f [] = sym (mul-zero k)
sum-mul k f (x ∷ xs) = rw (sum_by-cons (λ y. k * f y) x xs, sum_by-cons f x xs, sum-mul k f xs, mul-add) refl

-- a sum of one number
pub sum-const : (k : ℕ) (xs : List ℕ) → sum_by (λ x. k) xs ≡ length xs * k
sum-const k [] = omega arith
sum-const k (x ∷ xs) = let e : suc (length xs) * k ≡ k + length xs * k =
    mul_comm (suc (length xs)) k ∙ (omega (arith, mul_comm k (length xs))) in
    omega (arith, e, sum-const k xs, sum_by-cons (λ y. k) x xs)

-- the sums over rows and over columns are one
pub sum-exchange : (f : ℕ → ℕ → ℕ) (xs ys : List ℕ)
    → sum_by (λ x. sum_by (f x) ys) xs ≡ sum_by (λ y. sum_by (λ x. f x y) xs) ys
sum-exchange f [] ys = sym (sum-zero ys)
sum-exchange f (x ∷ xs) ys =
    sum_by-cons (λ z. sum_by (f z) ys) x xs
    ∙ ap (λ n. sum_by (f x) ys + n) (sum-exchange f xs ys)
    ∙ sym (sum-add (f x) (λ y. sum_by (λ z. f z y) xs) ys)
    ∙ sum-same (λ y. f x y + sum_by (λ z. f z y) xs) (λ y. sum_by (λ z. f z y) (x ∷ xs)) ys (each ys)
  where
    each : (zs : List ℕ) → AllByRecursion (λ y. f x y + sum_by (λ z. f z y) xs ≡ sum_by (λ z. f z y) (x ∷ xs)) zs
    each [] = tt
    each (z ∷ zs) = (sym (sum_by-cons (λ u. f u z) x xs), each zs)

-- a number where a test passes, and else 0
abbrev pub where_passes : Bool → ℕ → ℕ
where_passes b n = cond b n 0

-- a sum over the elements that pass a test
pub sum-filter : (f : ℕ → ℕ) (q : ℕ → Bool) (xs : List ℕ)
    → sum_by f (filter q xs) ≡ sum_by (λ x. where_passes (q x) (f x)) xs
sum-filter f q [] = refl
sum-filter f q (x ∷ xs) =
    elim (cases_Bool (q x)) [
      | inl e ↦
          rw (sum_by-cons (λ y. where_passes (q y) (f y)) x xs, e, sum_by-cons f x (filter q xs), sum-filter f q xs)
          refl
      | inr e ↦ rw (sum_by-cons (λ y. where_passes (q y) (f y)) x xs, e, sum-filter f q xs) (omega arith)
    ]

-- a sum over a part of a list
pub part-le : (f : ℕ → ℕ) (q : ℕ → Bool) (xs : List ℕ) → sum_by f (filter q xs) ≤ sum_by f xs
part-le f q [] = omega arith
part-le f q (x ∷ xs) = grind (arith, cases_Bool, sum_by-cons, part-le f q xs)

-- a range, term by term
pub range-le : (f g : ℕ → ℕ) (a n : ℕ) → ((j : ℕ) → a ≤ j → j < a + n → f j ≤ g j)
    → sum_by f (range_with_len a n) ≤ sum_by g (range_with_len a n)
range-le f g a zero h = omega arith
range-le f g a (suc n) h = grind (arith, sum_by-cons, range-le f g (a + 1) n)

pub range-same : (f g : ℕ → ℕ) (a n : ℕ) → ((j : ℕ) → a ≤ j → j < a + n → f j ≡ g j)
    → sum_by f (range_with_len a n) ≡ sum_by g (range_with_len a n)
range-same f g a zero h = refl
range-same f g a (suc n) h = grind (arith, sum_by-cons, range-same f g (a + 1) n)

-- whether a list has a number
abbrev pub among : List ℕ → ℕ → Bool
among t j = list_any (λ k. k == j) t

-- what holds of each element holds of a number that the list has
pub all-among : (P : ℕ → Type 0) (t : List ℕ) (j : ℕ) → AllByRecursion P t → among t j ≡ true → P j
all-among P [] j h m = absurd (false≢true m)
all-among P (x ∷ xs) j h m =
    elim (or_cases (x == j) (among xs j) m) [
      | inl e ↦ subst P (eqb-true x j e) h.0
      | inr e ↦ all-among P xs j h.1 e
    ]

-- a set has no number below its bound
pub among-below : (t : List ℕ) (low high j : ℕ) → IsSet low high t → j < low → among t j ≡ false
among-below [] low high j h b = refl
among-below (x ∷ xs) low high j h b =
    rw (ne_eqb x j (λ e. omega arith), among-below xs (x + 1) high j h.2 (omega arith)) refl

-- the term at a number where a set has it, and else 0
abbrev pub at : (ℕ → ℕ) → List ℕ → ℕ → ℕ
at f t j = where_passes (among t j) (f j)

-- past its first number, a set is what comes after that number
past-first : (f : ℕ → ℕ) (x : ℕ) (xs : List ℕ) (j : ℕ) → x < j → at f xs j ≡ at f (x ∷ xs) j
past-first f x xs j h = rw (ne_eqb x j (λ e. omega arith)) refl

-- a sum over a set is the sum over all numbers, where those outside count 0
pub sum-set : (f : ℕ → ℕ) (n : ℕ) (a high : ℕ) (t : List ℕ) → high < a + n → IsSet a high t
    → sum_by f t ≡ sum_by (at f t) (range_with_len a n)
sum-set f n a high [] b h = sym (sum-zero (range_with_len a n))
sum-set f zero a high (x ∷ xs) b h = let p : a ≤ x = h.0 in let q : x ≤ high = h.1 in absurd (omega arith)
sum-set f (suc n) a high (x ∷ xs) b h = elim (cases_eq x a) [
  | inl e ↦
      let rises : IsSet (a + 1) high xs = subst (λ k. IsSet (k + 1) high xs) e h.2 in
      let rest : sum_by f xs ≡ sum_by (at f xs) (range_with_len (a + 1) n) =
      sum-set f n (a + 1) high xs (omega arith) rises in
      let same : sum_by (at f xs) (range_with_len (a + 1) n) ≡ sum_by (at f (x ∷ xs)) (range_with_len (a + 1) n) =
      range-same (at f xs) (at f (x ∷ xs)) (a + 1) n (λ j low high'. past-first f x xs j (omega arith)) in
      let here : at f (x ∷ xs) a ≡ f x = rw (eq-eqb x a e) (ap f (sym e)) in
      omega (arith, sum_by-cons f x xs, sum_by-cons (at f (x ∷ xs)) a (range_with_len (a + 1) n))
  | inr e ↦
      let above : a + 1 ≤ x = omega arith in
      let rises : IsSet (a + 1) high (x ∷ xs) = (above, h.1, h.2) in
      let rest : sum_by f (x ∷ xs) ≡ sum_by (at f (x ∷ xs)) (range_with_len (a + 1) n) =
      sum-set f n (a + 1) high (x ∷ xs) (omega arith) rises in
      let here : at f (x ∷ xs) a ≡ 0 = rw (among-below (x ∷ xs) (a + 1) high a rises (omega arith)) refl in
      omega (arith, sum_by-cons (at f (x ∷ xs)) a (range_with_len (a + 1) n))
]
