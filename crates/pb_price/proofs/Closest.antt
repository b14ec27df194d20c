-- The finding by a loop is that of the definition: the closest of the candidates is the first at which the excess is
-- greatest.
use Rattle.std.proofs.Common.{◌≡◌, ℕ, zero, suc, ◌+◌, ◌-◌, ◌<◌, ◌≤◌, Bool, true, false, List, ◌∷◌, refl, sym, ◌∙◌, ap, inl, inr, arith}
use Rattle.std.specs.Prelude.{ℤ, ◌≤ℤ◌, ◌&&◌, Option, Some, None, filter, int_le, option_map, slice_get}
use Rattle.std.specs.List.{list_all, range_with_len}
use Rattle.std.specs.Option.{option_or}
use Rattle.std.proofs.lemmas.Bool.{cases_Bool}
use Rattle.std.proofs.lemmas.Int.{ints}
use Rattle.pb_records.proofs.Lists.{filter-none}
use Rattle.pb_cohesion.proofs.Culprits.{filter-filter}
use Rattle.pb_cohesion.proofs.Loops.{range-first}
use Rattle.pb_price.specs.Findings.{closest, comparison, excess, finding}
use Rattle.pb_price.specs.Inside.Noted.{IsFindingBy, IsFindingTo, IsFirstGreatest, IsShown, among}
use Rattle.pb_price.specs.declared.Comparison.{Comparison}
use Rattle.pb_price.specs.declared.Finding.{Finding}
use Rattle.pb_price.proofs.SameSums.{Same, finding-as}

-- what holds of each number of a range that passes a test
all-pass : (p r : ℕ → Bool) (n a : ℕ) → ((j : ℕ) → a ≤ j → j < a + n → r j ≡ true → p j ≡ true)
    → list_all p (filter r (range_with_len a n)) ≡ true
all-pass p r zero a h = refl
all-pass p r (suc n) a h = grind (arith, all-pass p r n (a + 1))

each-pass : (p r : ℕ → Bool) (n a : ℕ) → list_all p (filter r (range_with_len a n)) ≡ true → (j : ℕ) → a ≤ j → j < a + n
    → r j ≡ true → p j ≡ true
each-pass p r zero a h j low high is = absurd (omega arith)
each-pass p r (suc n) a h j low high is = grind (arith, each-pass p r n (a + 1))

-- a range of which each number passes
pub each-passes : (n a : ℕ) → filter (λ i. true) (range_with_len a n) ≡ range_with_len a n
each-passes zero a = refl
each-passes (suc n) a = ap (λ xs. a ∷ xs) (each-passes n (a + 1))

-- the first at which f is greatest is the closest
le-test : (x y : ℤ) → x ≤ℤ y → int_le x y ≡ true
le-test x y h = grind (arith, ints)

test-le : (x y : ℤ) → int_le x y ≡ true → x ≤ℤ y
test-le x y h = grind (arith, ints)

same-int : (x y : ℤ) → x ≤ℤ y → y ≤ℤ x → x ≡ y
same-int x y h k = omega (arith, ints)

abbrev at_least_each : (ℕ → ℤ) → List ℕ → ℕ → Bool
at_least_each f xs x = list_all (λ y. int_le (f y) (f x)) xs

closest-is : (r : ℕ → Bool) (f : ℕ → ℤ) (n x : ℕ) → IsFirstGreatest (among n r) f x
    → closest (filter r (range_with_len 1 n)) f ≡ Some x
closest-is r f n x h =
    let low : 1 ≤ x = h.one.0 in
    let high : x ≤ n = h.one.1 in
    ap (λ xs. slice_get xs 0) (filter-filter (at_least_each f (filter r (range_with_len 1 n))) r (range_with_len 1 n))
    ∙ range-first (λ y. r y && at_least_each f (filter r (range_with_len 1 n)) y) n x
    (filter-none (λ y. r y && at_least_each f (filter r (range_with_len 1 n)) y) (x - 1) 1
    (λ j from to. before j from (omega arith))) low high here
  where
    here : (r x && at_least_each f (filter r (range_with_len 1 n)) x) ≡ true
    here =
        rw h.one.2
        (all-pass (λ y. int_le (f y) (f x)) r n 1
        (λ j from to is. le-test (f j) (f x) (h.greatest j (from, omega arith, is))))

    less : (j : ℕ) → 1 ≤ j → j < x → r j ≡ true → (b : Bool) → at_least_each f (filter r (range_with_len 1 n)) j ≡ b
        → b ≡ false
    less j from to is true k =
        let one : among n r j = (from, omega arith, is) in
        let above : f x ≤ℤ f j =
        test-le (f x) (f j) (each-pass (λ y. int_le (f y) (f j)) r n 1 k x h.one.0 (omega arith) h.one.2) in
        let first : x ≤ j = h.lowest j one (same-int (f j) (f x) (h.greatest j one) above) in
        absurd (omega arith)
    less j from to is false k = refl

    before : (j : ℕ) → 1 ≤ j → j < x → (r j && at_least_each f (filter r (range_with_len 1 n)) j) ≡ false
    before j from to = elim (cases_Bool (r j)) [
      | inl is ↦ rw is (less j from to is _ refl)
      | inr is ↦ rw is refl
    ]

none-closest : (r : ℕ → Bool) (f : ℕ → ℤ) (n : ℕ) → ((x : ℕ) → among n r x → ⊥)
    → closest (filter r (range_with_len 1 n)) f ≡ None
none-closest r f n none = grind (arith, filter-none)

shown-is : (n : ℕ) (r : ℕ → Bool) (bound : ℕ → ℕ) (amount : ℕ → ℤ) (o : Option ℕ) (s : Option Comparison)
    → IsShown o (among n r) bound amount s
    → s ≡ option_map (comparison bound amount)
    (option_or o (closest (filter r (range_with_len 1 n)) (λ x. excess (comparison bound amount x))))
shown-is n r bound amount (Some x) s h = h
shown-is n r bound amount None None h = grind (arith, none-closest)
shown-is n r bound amount None (Some m) h = ap Some h.0
    ∙ ap (option_map (comparison bound amount))
    (sym (closest-is r (λ x. excess (comparison bound amount x)) n m.at h.1))

finding-is : (n : ℕ) (r : ℕ → Bool) (culprits candidates : List ℕ) (bound : ℕ → ℕ) (amount : ℕ → ℤ) (f : Finding)
    → IsFindingBy culprits n r bound amount f → filter r (range_with_len 1 n) ≡ candidates
    → f ≡ finding culprits candidates bound amount
finding-is n r culprits candidates bound amount f h is = grind (arith, shown-is)

-- the same by another account of the sums
pub found-as : (n : ℕ) (q r : ℕ → Bool) (culprits candidates : List ℕ) (bound bound' : ℕ → ℕ) (amount amount' : ℕ → ℤ)
    (f : Finding) → IsFindingTo n q r bound amount f
    → filter q (range_with_len 1 n) ≡ culprits → Same n bound bound' amount amount'
    → filter r (range_with_len 1 n) ≡ candidates → f ≡ finding culprits candidates bound' amount'
found-as n q r culprits candidates bound bound' amount amount' f h is same among_is =
    finding-is n r culprits candidates bound' amount' f
    (finding-as n q r culprits bound bound' amount amount' f h is same) among_is
