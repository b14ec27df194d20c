-- A search among the payments of a voter, which rise by project.
use Rattle.std.proofs.Common.{◌≡◌, ◌<◌, ◌≤◌, ◌+◌, ℕ, zero, suc, List, [], ◌∷◌, length, get_or, refl, sym, inl, inr, arith}
use Rattle.std.specs.Prelude.{◌≢◌, MatchResult, Ok, Err, Result, map}
use Rattle.std.specs.List.Sorted.{IsBinarySearchResult, IsNonDecreasingBy, IsSearchInRange}
use Rattle.std.specs.Ordering.{nat_cmp, ordering_index}
use Rattle.std.proofs.lemmas.Bool.{cases_lt, ne_eqb}
use Rattle.std.proofs.lemmas.Bool.Decides.{nat_tests}
use Rattle.std.proofs.lemmas.Cmp.{ranked}
use Rattle.std.proofs.lemmas.List.Sorted.{IsNonDecreasingBy-from_default}
use Rattle.pb_election.specs.Instance.{IsSet}
use Rattle.pb_election.proofs.Sets.{is-itself}
use Rattle.pb_certificate.specs.Prices.{numerator_in}

abbrev Pays : Type 0
Pays = List (ℕ × ℕ)

abbrev project_at : Pays → ℕ → ℕ
project_at qs k = (get_or qs k (0, 0)).0

-- the projects rise
project-above : (low high : ℕ) (qs : Pays) → IsSet low high (map (λ q. q.0) qs) → (k : ℕ) → k < length qs
    → low ≤ project_at qs k
project-above low high [] set k h = omega (arith, h)
project-above low high (q ∷ qs) set zero h = set.0
project-above low high (q ∷ qs) set (suc k) h =
    let behind = project-above (q.0 + 1) high qs set.2 k (omega (arith, h)) in
    omega (arith, set.0, behind)

projects-rise : (low high : ℕ) (qs : Pays) → IsSet low high (map (λ q. q.0) qs) → (i k : ℕ) → i ≤ k → k < length qs
    → project_at qs i ≤ project_at qs k
projects-rise low high [] set i k le h = omega (arith, h)
projects-rise low high (q ∷ qs) set zero zero le h = omega arith
projects-rise low high (q ∷ qs) set zero (suc k) le h = grind (arith, project-above)
projects-rise low high (q ∷ qs) set (suc i) zero le h = omega (arith, le)
projects-rise low high (q ∷ qs) set (suc i) (suc k) le h =
    projects-rise (q.0 + 1) high qs set.2 i k (omega (arith, le)) (omega (arith, h))

-- the comparisons with a project rise as well, as a binary search asks
comparisons-rise : (low high : ℕ) (qs : Pays) (j : ℕ) → IsSet low high (map (λ q. q.0) qs)
    → IsNonDecreasingBy (λ q. ordering_index (nat_cmp q.0 j)) qs
comparisons-rise low high qs j set =
    IsNonDecreasingBy-from_default (λ q. ordering_index (nat_cmp q.0 j)) qs (0, 0) (λ i k le h.
    let rise = projects-rise low high qs set i k le h in
    grind (arith, nat_tests))

-- the payment for a project that is there, and for one that is not

numerator-at : (low high : ℕ) (qs : Pays) → IsSet low high (map (λ q. q.0) qs) → (k : ℕ) → k < length qs
    → numerator_in qs (project_at qs k) ≡ (get_or qs k (0, 0)).1
numerator-at low high [] set k h = absurd (omega (arith, h))
numerator-at low high (q ∷ qs) set zero h = rw (is-itself q.0) refl
numerator-at low high (q ∷ qs) set (suc k) h =
    let behind = project-above (q.0 + 1) high qs set.2 k (omega (arith, h)) in
    rw (ne_eqb q.0 (project_at qs k) (λ same. omega (arith, same, behind)))
    (numerator-at (q.0 + 1) high qs set.2 k (omega (arith, h)))

numerator-none : (qs : Pays) (j : ℕ) → ((k : ℕ) → k < length qs → project_at qs k ≢ j) → numerator_in qs j ≡ 0
numerator-none [] j none = refl
numerator-none (q ∷ qs) j none =
    rw (ne_eqb q.0 j (none 0 (omega arith))) (numerator-none qs j (λ k h. none (suc k) (omega (arith, h))))

-- a binary search finds the payment, or that there is none
pub payment-searched : (low high : ℕ) (qs : Pays) (j : ℕ) (r : Result ℕ ℕ) → IsSet low high (map (λ q. q.0) qs)
    → IsSearchInRange r (length qs) → IsBinarySearchResult (λ q. nat_cmp q.0 j) qs r
    → MatchResult r (λ k. numerator_in qs j ≡ (get_or qs k (0, 0)).1) (λ k. numerator_in qs j ≡ 0)
payment-searched low high qs j (Ok k) set within equal = grind (arith, get_or, numerator-at)
payment-searched low high qs j (Err i) set within parted =
    let sides = parted (comparisons-rise low high qs j set) in
    numerator-none qs j (λ k h same. elim (cases_lt k i) [
      | inl before ↦ let less : project_at qs k < j = ranked _ j _ (sym (sides.0 k (0, 0) (omega arith) before)) in
          omega (arith, same, less)
      | inr behind ↦ let greater : j < project_at qs k = ranked _ j _ (sym (sides.1 k (0, 0) behind h)) in
          omega (arith, same, greater)
    ])
