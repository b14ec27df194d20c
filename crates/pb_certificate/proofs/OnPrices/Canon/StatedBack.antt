-- The payments that the rows of some prices state are those of the prices, and they stand in order.
use Rattle.std.proofs.Common.{◌≡◌, ◌∙◌, ◌≤◌, ◌<◌, ◌+◌, ℕ, zero, suc, true, false, List, [], ◌∷◌, ◌++◌, map, refl, sym, ap, subst, arith, inl, inr, Some}
use Rattle.std.specs.Prelude.{◌==◌, filter_map, flat_map, nat_lt}
use Rattle.std.specs.List.{AllByRecursion, IsDistinct, cons_option, range_with_len}
use Rattle.std.specs.List.Sorted.{IsNonDecreasing}
use Rattle.std.proofs.lemmas.Bool.{cases_eq, eq-eqb, lt-ltb, ne_eqb}
use Rattle.pb_election.specs.Instance.{IsSet}
use Rattle.pb_certificate.specs.Prices.{numerator_in}
use Rattle.pb_certificate.specs.Prices.Text.{Payment, above_0, same_pair, stated}
use Rattle.pb_certificate.proofs.OnPrices.Canon.Written.{all-at}

-- the payments of one voter, and of the voters of a range
abbrev pub payment_at : ℕ → ℕ × ℕ → Payment
payment_at i q = record { voter = i; project = q.0; numerator = q.1 }

abbrev pub of_voter : ℕ → List (ℕ × ℕ) → List Payment
of_voter i qs = map (payment_at i) qs

abbrev pub of_voters : (ℕ → List (ℕ × ℕ)) → ℕ → ℕ → List Payment
of_voters f a n = flat_map (λ i. of_voter i (f i)) (range_with_len a n)

-- What they state.

stated-other : (s : ℕ) (qs : List (ℕ × ℕ)) (tail : List Payment) (i j : ℕ) → (s == i) ≡ false
    → stated (of_voter s qs ++ tail) i j ≡ stated tail i j
stated-other s [] tail i j h = refl
stated-other s (q ∷ qs) tail i j h = rw h (stated-other s qs tail i j h)

stated-own : (i : ℕ) (qs : List (ℕ × ℕ)) (tail : List Payment) (j : ℕ) → stated tail i j ≡ 0
    → stated (of_voter i qs ++ tail) i j ≡ numerator_in qs j
stated-own i [] tail j h = h
stated-own i (q ∷ qs) tail j h = grind (arith, stated-own i qs tail j h)

stated-before : (f : ℕ → List (ℕ × ℕ)) (n a i j : ℕ) → i < a → stated (of_voters f a n) i j ≡ 0
stated-before f zero a i j h = refl
stated-before f (suc n) a i j h = grind (arith, stated-other, ne_eqb, stated-before f n (a + 1) i j)

pub stated-all : (f : ℕ → List (ℕ × ℕ)) (n a i j : ℕ) → a ≤ i → i < a + n
    → stated (of_voters f a n) i j ≡ numerator_in (f i) j
stated-all f zero a i j low high = absurd (omega arith)
stated-all f (suc n) a i j low high =
    grind (arith, cases_eq, stated-before, stated-own, stated-other, ne_eqb, stated-all f n (a + 1) i j)

-- A voter's payments from what is stated of each project.

numerator-before : (low high j : ℕ) (qs : List (ℕ × ℕ)) → IsSet low high (map (λ q. q.0) qs) → j < low
    → numerator_in qs j ≡ 0
numerator-before low high j [] h l = refl
numerator-before low high j (q ∷ qs) h l =
    rw (ne_eqb q.0 j (λ e. absurd (omega (arith, h.0)))) (numerator-before (q.0 + 1) high j qs h.2 (omega (arith, h.0)))

abbrev stated_pairs : List (ℕ × ℕ) → ℕ → ℕ → List (ℕ × ℕ)
stated_pairs qs a n = filter_map (λ j. above_0 j (numerator_in qs j)) (range_with_len a n)

-- a payment for a project before a range makes no difference there
pairs-rest : (q : ℕ × ℕ) (qs : List (ℕ × ℕ)) (n a : ℕ) → q.0 < a → stated_pairs (q ∷ qs) a n ≡ stated_pairs qs a n
pairs-rest q qs zero a h = refl
pairs-rest q qs (suc n) a h = grind (arith, pairs-rest q qs n (a + 1))

pairs-none : (n a : ℕ) → stated_pairs [] a n ≡ []
pairs-none zero a = refl
pairs-none (suc n) a = pairs-none n (a + 1)

pair-some : (x : ℕ) → 0 < x → nat_lt 0 x ≡ true
pair-some x h = lt-ltb 0 x h

pub pairs-back : (n a high : ℕ) (qs : List (ℕ × ℕ)) → high < a + n → IsSet a high (map (λ q. q.0) qs)
    → AllByRecursion (λ q. 0 < q.1) qs → stated_pairs qs a n ≡ qs
pairs-back n a high [] w h s = pairs-none n a
pairs-back zero a high (q ∷ qs) w h s = absurd (omega (arith, h.0, h.1))
pairs-back (suc n) a high (q ∷ qs) w h s = elim (cases_eq q.0 a) [
  | inl e ↦
      let rest : stated_pairs (q ∷ qs) (a + 1) n ≡ qs = pairs-rest q qs n (a + 1) (omega arith)
      ∙ pairs-back n (a + 1) high qs (omega arith) (subst (λ (x : ℕ). IsSet (x + 1) high (map (λ q. q.0) qs)) e h.2)
      s.1 in
      let here : numerator_in (q ∷ qs) a ≡ q.1 = rw (eq-eqb q.0 a e) refl in
      let some : above_0 a (numerator_in (q ∷ qs) a) ≡ Some q =
      ap (above_0 a) here ∙ rw (pair-some q.1 s.0) (ap (λ (x : ℕ). Some (x, q.1)) (sym e)) in
      (λ i. cons_option (some i) (rest i))
  | inr e ↦
      let none : numerator_in (q ∷ qs) a ≡ 0 =
      numerator-before (a + 1) high a (q ∷ qs) (omega (arith, h.0), h.1, h.2) (omega arith) in
      ap (λ (x : ℕ). cons_option (above_0 a x) (stated_pairs (q ∷ qs) (a + 1) n)) none
      ∙ pairs-back n (a + 1) high (q ∷ qs) (omega arith) (omega (arith, h.0), h.1, h.2) s
]

-- Their order.

-- a payment may follow another: its voter is not lower, and the pair is another
abbrev MayFollow : Payment → Payment → Type 0
MayFollow a b = (a.voter ≤ b.voter) × (same_pair a b ≡ false)

abbrev pub InOrder : List Payment → Type 0
InOrder [] = Unit {0}
InOrder (q ∷ qs) = AllByRecursion (MayFollow q) qs × InOrder qs

pub distinct : (qs : List Payment) → InOrder qs → IsDistinct same_pair qs
unfolding IsDistinct
distinct [] h = tt
distinct (q ∷ qs) h = (each qs h.0, distinct qs h.1)
  where
    each : (ps : List Payment) → AllByRecursion (MayFollow q) ps → AllByRecursion (λ p. same_pair q p ≡ false) ps
    each [] k = tt
    each (p ∷ ps) k = (k.0.1, each ps k.1)

pub rising : (qs : List Payment) → InOrder qs → IsNonDecreasing (map (λ q. q.voter) qs)
rising [] h i j d l m = absurd (omega arith)
rising (q ∷ qs) h zero zero d l m = omega arith
rising (q ∷ qs) h zero (suc j) d l m =
    all-at (λ (v : ℕ). q.voter ≤ v) (map (λ p. p.voter) qs) j d (each qs h.0) (omega arith)
  where
    each : (ps : List Payment) → AllByRecursion (MayFollow q) ps
        → AllByRecursion (λ v. q.voter ≤ v) (map (λ p. p.voter) ps)
    each [] k = tt
    each (p ∷ ps) k = (k.0.0, each ps k.1)
rising (q ∷ qs) h (suc i) zero d l m = absurd (omega arith)
rising (q ∷ qs) h (suc i) (suc j) d l m = rising qs h.1 i j d (omega arith) (omega arith)

-- a payment may be followed by those of the same voter for higher projects, and then by those of higher voters
follows-own : (i j : ℕ) (x low high : ℕ) (qs : List (ℕ × ℕ)) (tail : List Payment) → j < low
    → IsSet low high (map (λ q. q.0) qs) → AllByRecursion (MayFollow (payment_at i (j, x))) tail
    → AllByRecursion (MayFollow (payment_at i (j, x))) (of_voter i qs ++ tail)
follows-own i j x low high [] tail l h t = t
follows-own i j x low high (q ∷ qs) tail l h t = grind (arith, follows-own i j x (q.0 + 1) high qs tail)

follows-voter : (r : Payment) (s : ℕ) (qs : List (ℕ × ℕ)) (tail : List Payment) → r.voter < s
    → AllByRecursion (MayFollow r) tail → AllByRecursion (MayFollow r) (of_voter s qs ++ tail)
follows-voter r s [] tail l t = t
follows-voter r s (q ∷ qs) tail l t = grind (arith, follows-voter r s qs tail l t)

follows-voters : (r : Payment) (f : ℕ → List (ℕ × ℕ)) (n a : ℕ) → r.voter < a
    → AllByRecursion (MayFollow r) (of_voters f a n)
follows-voters r f zero a l = tt
follows-voters r f (suc n) a l = grind (arith, follows-voter, follows-voters r f n (a + 1))

ordered-own : (f : ℕ → List (ℕ × ℕ)) (n i low high : ℕ) (qs : List (ℕ × ℕ)) → IsSet low high (map (λ q. q.0) qs)
    → InOrder (of_voters f (i + 1) n) → InOrder (of_voter i qs ++ of_voters f (i + 1) n)
ordered-own f n i low high [] h t = t
ordered-own f n i low high (q ∷ qs) h t = (
  follows-own i q.0 q.1 (q.0 + 1) high qs (of_voters f (i + 1) n) (omega arith) h.2
      (follows-voters (payment_at i q) f n (i + 1) (omega arith)),
  ordered-own f n i (q.0 + 1) high qs h.2 t,
)

pub ordered : (f : ℕ → List (ℕ × ℕ)) (high n a : ℕ)
    → ((i : ℕ) → a ≤ i → i < a + n → IsSet 1 high (map (λ q. q.0) (f i))) → InOrder (of_voters f a n)
ordered f high zero a h = tt
ordered f high (suc n) a h = grind (arith, ordered-own, ordered f high n (a + 1))
