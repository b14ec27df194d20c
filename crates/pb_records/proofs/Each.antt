-- What holds of each element of a list.
use Rattle.std.proofs.Common.{◌≡◌, ℕ, zero, suc, ◌+◌, ◌<◌, ◌≤◌, Bool, true, false, cond, List, [], ◌∷◌, ◌++◌, arith}
use Rattle.std.specs.Prelude.{IfSome, filter, flat_map, map, slice_get}
use Rattle.std.specs.List.{AllByRecursion, list_any, range_with_len}
use Rattle.std.proofs.lemmas.Bool.{or_parts}

pub all-every : {A : Type 0} (P : A → Type 0) (xs : List A) → ((x : A) → P x) → AllByRecursion P xs
all-every P [] each = tt
all-every P (x ∷ xs) each = (each x, all-every P xs each)

pub all-weaker : {A : Type 0} (P Q : A → Type 0) (xs : List A) → ((x : A) → P x → Q x) → AllByRecursion P xs
    → AllByRecursion Q xs
all-weaker P Q [] f p = tt
all-weaker P Q (x ∷ xs) f p = (f x p.0, all-weaker P Q xs f p.1)

pub all-both : {A : Type 0} (P Q R : A → Type 0) (xs : List A) → ((x : A) → P x → Q x → R x) → AllByRecursion P xs
    → AllByRecursion Q xs → AllByRecursion R xs
all-both P Q R [] f p q = tt
all-both P Q R (x ∷ xs) f p q = (f x p.0 q.0, all-both P Q R xs f p.1 q.1)

pub all-first : {A : Type 0} (P : A → Type 0) (xs : List A) → AllByRecursion P xs → IfSome (slice_get xs 0) P
all-first P [] p = tt
all-first P (x ∷ xs) p = p.0

pub all-append : {A : Type 0} (P : A → Type 0) (xs ys : List A) → AllByRecursion P xs → AllByRecursion P ys
    → AllByRecursion P (xs ++ ys)
all-append P [] ys p q = q
all-append P (x ∷ xs) ys p q = (p.0, all-append P xs ys p.1 q)

pub all-push : {A : Type 0} (P : A → Type 0) (xs : List A) (x : A) → AllByRecursion P xs → P x
    → AllByRecursion P (xs ++ (x ∷ []))
all-push P xs x p q = all-append P xs (x ∷ []) p (q, tt)

pub all-front : {A : Type 0} (P : A → Type 0) (xs ys : List A) → AllByRecursion P (xs ++ ys) → AllByRecursion P xs
all-front P [] ys p = tt
all-front P (x ∷ xs) ys p = (p.0, all-front P xs ys p.1)

pub all-back : {A : Type 0} (P : A → Type 0) (xs ys : List A) → AllByRecursion P (xs ++ ys) → AllByRecursion P ys
all-back P [] ys p = p
all-back P (x ∷ xs) ys p = all-back P xs ys p.1

pub all-if : {A : Type 0} (P : A → Type 0) (b : Bool) (xs ys : List A) → AllByRecursion P xs → AllByRecursion P ys
    → AllByRecursion P (cond b xs ys)
all-if P true xs ys p q = p
all-if P false xs ys p q = q

pub all-filter : {A : Type 0} (P : A → Type 0) (test : A → Bool) (xs : List A) → AllByRecursion P xs
    → AllByRecursion P (filter test xs)
all-filter P test [] p = tt
all-filter P test (x ∷ xs) p =
    all-if P (test x) (x ∷ filter test xs) (filter test xs) (p.0, all-filter P test xs p.1) (all-filter P test xs p.1)

pub all-map : {A B : Type 0} (P : B → Type 0) (f : A → B) (xs : List A) → AllByRecursion (λ x. P (f x)) xs
    → AllByRecursion P (map f xs)
all-map P f [] p = tt
all-map P f (x ∷ xs) p = (p.0, all-map P f xs p.1)

pub all-flat_map : {A B : Type 0} (P : B → Type 0) (f : A → List B) (xs : List A)
    → AllByRecursion (λ x. AllByRecursion P (f x)) xs → AllByRecursion P (flat_map f xs)
all-flat_map P f [] p = tt
all-flat_map P f (x ∷ xs) p = all-append P (f x) (flat_map f xs) p.0 (all-flat_map P f xs p.1)

-- where no element passes the test, each fails it
pub all-fail : {A : Type 0} (test : A → Bool) (xs : List A) → list_any test xs ≡ false
    → AllByRecursion (λ x. test x ≡ false) xs
all-fail test [] h = tt
all-fail test (x ∷ xs) h = let parts = or_parts (test x) (list_any test xs) h in (parts.0, all-fail test xs parts.1)

-- what holds of each number of a range
pub all-range : (P : ℕ → Type 0) (a n : ℕ) → ((j : ℕ) → a ≤ j → j < a + n → P j) → AllByRecursion P (range_with_len a n)
all-range P a zero each = tt
all-range P a (suc n) each = grind (arith, all-range P (a + 1) n)
