-- A voter's payments, sorted by project, are those that the rows state.
use Rattle.std.proofs.Common.{◌≡◌, ◌≢◌, ◌≤◌, ◌<◌, ◌+◌, ◌∙◌, ℕ, zero, suc, Bool, true, false, cond, List, [], ◌∷◌, refl, sym, ap, subst, inl, inr, arith, Some, None, IsPermutation}
use Rattle.std.specs.Prelude.{◌==◌, ◌&&◌, All, nat_lt}
use Rattle.std.specs.List.{AllByRecursion, IsDistinct, cons_option, sum_by}
use Rattle.std.specs.List.Sorted.{IsNonDecreasingBy}
use Rattle.std.proofs.lemmas.Bool.{cases_Bool, cases_eq, cases_lt, eq-eqb, eqb-true, false≢true, lt-ltb, ne_eqb}
use Rattle.std.proofs.lemmas.List.Elements.{All-from_recursion}
use Rattle.std.proofs.lemmas.List.Sorted.{All-permutation, sum_by-IsPermutation}
use Rattle.std.proofs.lemmas.List.Sums.{sum_by-cons}
use Rattle.pb_election.specs.Instance.{IsSet}
use Rattle.pb_certificate.specs.Prices.{numerator_in}
use Rattle.pb_certificate.specs.Prices.Text.{Payment, same_pair, stated}
use Rattle.pb_certificate.specs.Inside.Prices.Gathering.{payments_made, stated_by}
use Rattle.pb_certificate.proofs.OnPrices.Payments.{each-of}
use Rattle.pb_certificate.proofs.OnPrices.Texts.{paid_projects, pairs}
use Rattle.pb_records.proofs.Each.{all-both}

-- projects that rise, each with the numerator that f gives it, are the pairs of f
numerator-low : (low high j : ℕ) (qs : List (ℕ × ℕ)) → IsSet low high (paid_projects qs) → j < low
    → numerator_in qs j ≡ 0
numerator-low low high j [] s l = refl
numerator-low low high j (q ∷ qs) s l =
    rw (ne_eqb q.0 j (λ e. omega arith)) (numerator-low (q.0 + 1) high j qs s.2 (omega arith))

pairs-are : (f : ℕ → ℕ) (n a high : ℕ) (ys : List (ℕ × ℕ)) → a + n ≡ high + 1 → IsSet a high (paid_projects ys)
    → AllByRecursion (λ q. 0 < q.1) ys → ((j : ℕ) → a ≤ j → numerator_in ys j ≡ f j) → ys ≡ pairs f a n
pairs-are f zero a high [] e s some h = refl
pairs-are f zero a high (q ∷ qs) e s some h = grind arith
pairs-are f (suc n) a high [] e s some h =
    let none : f a ≡ 0 = sym (h a (omega arith)) in
    rw none (pairs-are f n (a + 1) high [] (omega arith) tt tt (λ j l. h j (omega arith)))
pairs-are f (suc n) a high (q ∷ qs) e s some h = elim (cases_eq q.0 a) [
  | inl here ↦ (
      let is : q.1 ≡ f a = sym (ap (λ b. cond b q.1 (numerator_in qs a)) (eq-eqb q.0 a here)) ∙ h a (omega arith) in
      let positive : 0 < f a = subst (λ x. 0 < x) is some.0 in
      let rest : qs ≡ pairs f (a + 1) n =
      pairs-are f n (a + 1) high qs (omega arith) (subst (λ x. IsSet (x + 1) high (paid_projects qs)) here s.2) some.1
      (λ j l. sym (ap (λ b. cond b q.1 (numerator_in qs j)) (ne_eqb q.0 j (λ k. omega arith)))
      ∙ h j (omega arith)) in
      rw (lt-ltb 0 (f a) positive) (λ i. (here i, is i) ∷ rest i)
      )
  | inr other ↦ (
      let above : a + 1 ≤ q.0 = omega arith in
      let none : f a ≡ 0 = sym (h a (omega arith))
      ∙ numerator-low (a + 1) high a (q ∷ qs) (above, s.1, s.2) (omega arith) in
      rw none (pairs-are f n (a + 1) high (q ∷ qs) (omega arith) (above, s.1, s.2) some (λ j l. h j (omega arith)))
      )
]

-- sums over payments that pick those for one project
pick : ℕ → ℕ × ℕ → ℕ
pick j q = cond (q.0 == j) q.1 0

count : ℕ → ℕ × ℕ → ℕ
count j q = cond (q.0 == j) 1 0

total : (x p r w : ℕ) → p ≡ x → r ≡ 0 → w ≡ p + r → x ≡ w
total x p r w a b c = omega arith

past : (p r w : ℕ) → p ≡ 0 → w ≡ p + r → r ≡ w
past p r w a c = omega arith

numerator-sum : (low high j : ℕ) (ys : List (ℕ × ℕ)) → IsSet low high (paid_projects ys)
    → numerator_in ys j ≡ sum_by (pick j) ys
unfolding pick
numerator-sum low high j [] s = refl
numerator-sum low high j (q ∷ qs) s = by (q.0 == j) refl (numerator-sum (q.0 + 1) high j qs s.2)
  where
    by : (b : Bool) → (q.0 == j) ≡ b → numerator_in qs j ≡ sum_by (pick j) qs
        → numerator_in (q ∷ qs) j ≡ sum_by (pick j) (q ∷ qs)
    by true here rest =
        let place : q.0 ≡ j = eqb-true q.0 j here in
        let none : numerator_in qs j ≡ 0 = numerator-low (q.0 + 1) high j qs s.2 (omega arith) in
        let whole : sum_by (pick j) (q ∷ qs) ≡ pick j q + sum_by (pick j) qs = sum_by-cons (pick j) q qs in
        let first : numerator_in (q ∷ qs) j ≡ q.1 = ap (λ b. cond b q.1 (numerator_in qs j)) here in
        let picked : pick j q ≡ q.1 = ap (λ b. cond b q.1 0) here in
        first ∙ total q.1 (pick j q) (sum_by (pick j) qs) (sum_by (pick j) (q ∷ qs)) picked (sym rest ∙ none) whole
    by false other rest =
        let whole : sum_by (pick j) (q ∷ qs) ≡ pick j q + sum_by (pick j) qs = sum_by-cons (pick j) q qs in
        let first : numerator_in (q ∷ qs) j ≡ numerator_in qs j = ap (λ b. cond b q.1 (numerator_in qs j)) other in
        let picked : pick j q ≡ 0 = ap (λ b. cond b q.1 0) other in
        first ∙ rest ∙ past (pick j q) (sum_by (pick j) qs) (sum_by (pick j) (q ∷ qs)) picked whole

-- nothing is stated of a pair that no row names
absent : (q : Payment) (i j : ℕ) (qs : List Payment) → q.voter ≡ i → q.project ≡ j
    → AllByRecursion (λ m. same_pair q m ≡ false) qs → stated qs i j ≡ 0
absent q i j [] v p h = refl
absent q i j (m ∷ ms) v p h =
    let other : ((m.voter == i) && (m.project == j)) ≡ false =
    elim (cases_Bool ((m.voter == i) && (m.project == j))) [ inl yes' ↦ absurd (clash yes') | inr no' ↦ no' ] in
    rw other (absent q i j ms v p h.1)
  where
    clash : ((m.voter == i) && (m.project == j)) ≡ true → ⊥
    clash e = by (m.voter == i) (m.project == j) refl refl e
      where
        by : (a b : Bool) → (m.voter == i) ≡ a → (m.project == j) ≡ b → (a && b) ≡ true → ⊥
        by true true is_a is_b k =
            let voters : q.voter ≡ m.voter = v ∙ sym (eqb-true m.voter i is_a) in
            let projects : q.project ≡ m.project = p ∙ sym (eqb-true m.project j is_b) in
            let named : same_pair q m ≡ true =
            rw (eq-eqb q.voter m.voter voters, eq-eqb q.project m.project projects) refl in
            false≢true (sym h.0 ∙ named)
        by true false is_a is_b k = cc k
        by false b is_a is_b k = cc k

-- the payments of a voter, one row further
paid-cons : Bool → Payment → List (ℕ × ℕ) → List (ℕ × ℕ)
paid-cons b q rest = cons_option (cond b (Some (q.project, q.numerator)) None) rest

stated-sum : (qs : List Payment) (i j : ℕ) → IsDistinct same_pair qs
    → sum_by (pick j) (payments_made qs i) ≡ stated qs i j
unfolding IsDistinct pick paid-cons
stated-sum [] i j h = refl
stated-sum (q ∷ qs) i j h =
    by (q.voter == i) (nat_lt 0 q.numerator) (q.project == j) refl refl refl (stated-sum qs i j h.1)
  where
    by : (a b c : Bool) → (q.voter == i) ≡ a → nat_lt 0 q.numerator ≡ b → (q.project == j) ≡ c
        → sum_by (pick j) (payments_made qs i) ≡ stated qs i j
        → sum_by (pick j) (paid-cons (a && b) q (payments_made qs i)) ≡ cond (a && c) q.numerator (stated qs i j)
    by true true true is_a is_b is_c rest =
        let none : stated qs i j ≡ 0 = absent q i j qs (eqb-true q.voter i is_a) (eqb-true q.project j is_c) h.0 in
        sum_by-cons (pick j) (q.project, q.numerator) (payments_made qs i) ∙ rw is_c (omega arith)
    by true true false is_a is_b is_c rest = sum_by-cons (pick j) (q.project, q.numerator) (payments_made qs i)
        ∙ rw is_c (omega arith)
    by true false true is_a is_b is_c rest =
        let none : stated qs i j ≡ 0 = absent q i j qs (eqb-true q.voter i is_a) (eqb-true q.project j is_c) h.0 in
        let zero' : q.numerator ≤ 0 =
        elim (cases_lt 0 q.numerator)
        [ inl some ↦ absurd (false≢true (sym is_b ∙ lt-ltb 0 q.numerator some)) | inr le ↦ le ] in
        omega arith
    by true false false is_a is_b is_c rest = rest
    by false b c is_a is_b is_c rest = rest

uncounted : (q : Payment) (i j : ℕ) (qs : List Payment) → q.voter ≡ i → q.project ≡ j
    → AllByRecursion (λ m. same_pair q m ≡ false) qs → sum_by (count j) (payments_made qs i) ≡ 0
unfolding count paid-cons
uncounted q i j [] v p h = refl
uncounted q i j (m ∷ ms) v p h = by (m.voter == i) (nat_lt 0 m.numerator) refl (uncounted q i j ms v p h.1)
  where
    by : (a b : Bool) → (m.voter == i) ≡ a → sum_by (count j) (payments_made ms i) ≡ 0
        → sum_by (count j) (paid-cons (a && b) m (payments_made ms i)) ≡ 0
    by true true is_a rest =
        let voters : q.voter ≡ m.voter = v ∙ sym (eqb-true m.voter i is_a) in
        let other : (m.project == j) ≡ false = ne_eqb m.project j (λ e. (
        let named : same_pair q m ≡ true =
        rw (eq-eqb q.voter m.voter voters, eq-eqb q.project m.project (p ∙ sym e)) refl in
        false≢true (sym h.0 ∙ named)
        )) in
        let zero' : count j (m.project, m.numerator) ≡ 0 = ap (λ b. cond b 1 0) other in
        sum_by-cons (count j) (m.project, m.numerator) (payments_made ms i)
        ∙ sym (past (count j (m.project, m.numerator)) (sum_by (count j) (payments_made ms i)) _ zero' refl) ∙ rest
    by true false is_a rest = rest
    by false b is_a rest = rest

counted-once : (qs : List Payment) (i j : ℕ) → IsDistinct same_pair qs → sum_by (count j) (payments_made qs i) ≤ 1
unfolding IsDistinct count paid-cons
counted-once [] i j h = omega arith
counted-once (q ∷ qs) i j h =
    by (q.voter == i) (nat_lt 0 q.numerator) (q.project == j) refl refl (counted-once qs i j h.1)
  where
    by : (a b c : Bool) → (q.voter == i) ≡ a → (q.project == j) ≡ c → sum_by (count j) (payments_made qs i) ≤ 1
        → sum_by (count j) (paid-cons (a && b) q (payments_made qs i)) ≤ 1
    by true true true is_a is_c rest =
        let none : sum_by (count j) (payments_made qs i) ≡ 0 =
        uncounted q i j qs (eqb-true q.voter i is_a) (eqb-true q.project j is_c) h.0 in
        let whole = sum_by-cons (count j) (q.project, q.numerator) (payments_made qs i) in
        let one : count j (q.project, q.numerator) ≡ 1 = rw is_c refl in
        omega arith
    by true true false is_a is_c rest =
        let whole = sum_by-cons (count j) (q.project, q.numerator) (payments_made qs i) in
        let one : count j (q.project, q.numerator) ≡ 0 = rw is_c refl in
        omega arith
    by true false c is_a is_c rest = rest
    by false b c is_a is_c rest = rest

-- projects that don't fall, each at most once, rise
none-there : (k : ℕ) (rs : List (ℕ × ℕ)) → sum_by (count k) rs ≡ 0 → AllByRecursion (λ r. r.0 ≢ k) rs
unfolding count
none-there k [] h = tt
none-there k (r ∷ rs) h =
    let whole : sum_by (count k) (r ∷ rs) ≡ count k r + sum_by (count k) rs = sum_by-cons (count k) r rs in (
      λ e. (let one : count k r ≡ 1 = ap (λ b. cond b 1 0) (eq-eqb r.0 k e) in omega arith),
      none-there k rs (left (count k r) (sum_by (count k) rs) (sym whole ∙ h)),
    )
  where
    left : (a b : ℕ) → a + b ≡ 0 → b ≡ 0
    left a b e = omega arith

paid-projects-rise : (low high : ℕ) (ys : List (ℕ × ℕ)) → IsNonDecreasingBy (λ p. p.0) ys
    → ((j : ℕ) → sum_by (count j) ys ≤ 1) → AllByRecursion (λ q. (low ≤ q.0) × (q.0 ≤ high)) ys
    → IsSet low high (paid_projects ys)
unfolding count
paid-projects-rise low high [] nd once bounds = tt
paid-projects-rise low high (q ∷ qs) nd once bounds =
    let whole = sum_by-cons (count q.0) q qs in
    let one : count q.0 q ≡ 1 = rw (eq-eqb q.0 q.0 refl) refl in
    let none : sum_by (count q.0) qs ≡ 0 = omega arith in
    let least : All (λ r. q.0 ≤ r.0) qs = λ k d within. nd 0 (suc k) d (omega arith) (omega arith) in
    let later : AllByRecursion (λ r. q.0 + 1 ≤ r.0) qs =
    all-both (λ r. r.0 ≢ q.0) (λ r. q.0 ≤ r.0) (λ r. q.0 + 1 ≤ r.0) qs (λ r other above. omega arith)
    (none-there q.0 qs none) (each-of (λ r. q.0 ≤ r.0) qs least) in
    let rest =
    all-both (λ r. q.0 + 1 ≤ r.0) (λ r. (low ≤ r.0) × (r.0 ≤ high)) (λ r. (q.0 + 1 ≤ r.0) × (r.0 ≤ high)) qs
    (λ r above within. (above, within.1)) later bounds.1 in (
      bounds.0.0,
      bounds.0.1,
      paid-projects-rise (q.0 + 1) high qs (λ i j d le within. nd (suc i) (suc j) d (omega arith) (omega arith))
          (λ j. (let more = sum_by-cons (count j) q qs in let most = once j in omega arith)) rest,
    )

paid-bounds : (qs : List Payment) (m i : ℕ) → AllByRecursion (λ q. (1 ≤ q.project) × (q.project ≤ m)) qs
    → AllByRecursion (λ p. (1 ≤ p.0) × (p.0 ≤ m)) (payments_made qs i)
unfolding paid-cons
paid-bounds [] m i h = tt
paid-bounds (q ∷ qs) m i h = by ((q.voter == i) && nat_lt 0 q.numerator) (paid-bounds qs m i h.1)
  where
    by : (b : Bool) → AllByRecursion (λ p. (1 ≤ p.0) × (p.0 ≤ m)) (payments_made qs i)
        → AllByRecursion (λ p. (1 ≤ p.0) × (p.0 ≤ m)) (paid-cons b q (payments_made qs i))
    by true rest = (h.0, rest)
    by false rest = rest

paid-some : (qs : List Payment) (i : ℕ) → AllByRecursion (λ p. 0 < p.1) (payments_made qs i)
unfolding paid-cons
paid-some [] i = tt
paid-some (q ∷ qs) i = grind (arith, paid-some qs i)

moved : (P : ℕ × ℕ → Type 0) (xs ys : List (ℕ × ℕ)) → IsPermutation xs ys → AllByRecursion P xs → AllByRecursion P ys
moved P xs ys p h = each-of P ys (All-permutation P xs ys p (All-from_recursion P xs h))

pub sorted-stated : (qs : List Payment) (m i : ℕ) (ys : List (ℕ × ℕ)) → IsDistinct same_pair qs
    → AllByRecursion (λ q. (1 ≤ q.project) × (q.project ≤ m)) qs → IsNonDecreasingBy (λ p. p.0) ys
    → IsPermutation (payments_made qs i) ys
    → ys ≡ stated_by m qs i
sorted-stated qs m i ys once within nd perm =
    let counts : (j : ℕ) → sum_by (count j) ys ≤ 1 =
    λ j. subst (λ n. n ≤ 1) (sym (sum_by-IsPermutation (count j) (payments_made qs i) ys perm))
    (counted-once qs i j once) in
    let rise =
    paid-projects-rise 1 m ys nd counts
    (moved (λ p. (1 ≤ p.0) × (p.0 ≤ m)) (payments_made qs i) ys perm (paid-bounds qs m i within)) in
    pairs-are (stated qs i) m 1 m ys (omega arith) rise
    (moved (λ p. 0 < p.1) (payments_made qs i) ys perm (paid-some qs i))
    (λ j low. numerator-sum 1 m j ys rise ∙ sum_by-IsPermutation (pick j) (payments_made qs i) ys perm
    ∙ stated-sum qs i j once)
