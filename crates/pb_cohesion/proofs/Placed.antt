-- Where the members of a group stand, in the order of what supporters got.
use Rattle.std.proofs.Common.{◌≡◌, ℕ, ◌+◌, ◌-◌, ◌*◌, ◌<◌, ◌≤◌, Bool, true, false, List, [], ◌∷◌, length, get_or, refl, sym, inl, inr, arith}
use Rattle.std.specs.Prelude.{◌≢◌, All, Contains, nat_le, sum_by}
use Rattle.std.specs.List.{AllByRecursion}
use Rattle.std.proofs.lemmas.Bool.{cases_lt, le-leb}
use Rattle.std.proofs.lemmas.List.Elements.{All-contains, All-from_recursion, recursion_from_All}
use Rattle.std.proofs.lemmas.List.{get_or_default}
use Rattle.std.proofs.Math.Nat.{mul-le-mul_left, mul-le-mul_right}
use Rattle.pb_election.specs.Instance.{Instance, IsVoter, approves, supporters, voters}
use Rattle.pb_election.specs.Outcome.{has}
use Rattle.pb_certificate.specs.declared.violations.measure.Measure.{Measure}
use Rattle.pb_records.proofs.Each.{all-both, all-weaker}
use Rattle.pb_cohesion.specs.Closest.{most_got, up_to}
use Rattle.pb_cohesion.specs.Groups.{IsGroupWithin}
use Rattle.pb_cohesion.specs.Inside.Counting.{AreByGot, gots, is_enough}
use Rattle.pb_cohesion.specs.Short.{FallsShort, got, need}
use Rattle.pb_cohesion.proofs.Order.{gots-rise, supporters-sum}
use Rattle.pb_cohesion.proofs.Rising.{Rises, at_most, at_most-high, at_most-low}
use Rattle.pb_cohesion.proofs.Sets.{set-le-filter}
use Rattle.pb_cohesion.proofs.Sums.{sum-const, sum-same, where_passes}
use Rattle.pb_cohesion.proofs.Supported.{each-supports, filter-has, got-stands, largest-all, largest-le, largest-some, need-rises, stands-got, up_to-all, up_to-has}

-- Where the last member of a group stands, in the order of what supporters got: at k, where as much is got as the most
-- that a member got, or less, and no fewer stand up to there than the group has members.
pub record Place (m : Measure) (e : Instance) (w : List Bool) (c : ℕ) (xs : List ℕ) (t : List ℕ) : Type 0 where
  pub k : ℕ
  pub is : k + 1 ≡ at_most (most_got m e w t) xs
  pub within : k < length xs
  pub below : get_or xs k 0 ≤ most_got m e w t
  pub few : length t ≤ k + 1

pub place : (m : Measure) (e : Instance) (w : List Bool) (c : ℕ) (order : List (ℕ × ℕ)) (t : List ℕ) → AreByGot m e w order
    → has w c ≡ false → t ≢ [] → IsGroupWithin e t c → Place m e w c (gots e w c order) t
place m e w c order t by unfunded some group =
    let g = most_got m e w t in
    let xs = gots e w c order in
    let members : length t ≤ at_most g xs =
    subst2-le (count-all g t (largest-all (got m e w) t))
    (sym (supporters-sum (λ n. where_passes (nat_le n g) 1) m e w c order by unfunded))
    (set-le-filter (λ i. where_passes (nat_le (got m e w i) g) 1) (λ i. approves e i c) (voters e) t group.0
    (recursion_from_All (λ i. approves e i c ≡ true) t group.1)) in
    let positive : 0 < length t = long t some in
    let at = at_most-low g 0 xs (at_most g xs - 1)
    (gots-rise e w c 0 order by.rising (λ k d within. omega arith)) (omega arith) in
    record { k = at_most g xs - 1; is = omega arith; within = at.0; below = at.1; few = omega arith }
  where
    long : (s : List ℕ) → s ≢ [] → 0 < length s
    long [] some' = absurd (some' refl)
    long (x ∷ xs') some' = omega arith

    subst2-le : {a b k l : ℕ} → a ≡ b → k ≡ l → b ≤ k → a ≤ l
    subst2-le h i le = omega (arith, h, i, le)

    count-all : (g : ℕ) (s : List ℕ) → AllByRecursion (λ i. got m e w i ≤ g) s
        → length s ≡ sum_by (λ i. where_passes (nat_le (got m e w i) g) 1) s
    count-all g s each =
        let ones : sum_by (λ i. where_passes (nat_le (got m e w i) g) 1) s ≡ sum_by (λ i. 1) s =
        sum-same (λ i. where_passes (nat_le (got m e w i) g) 1) (λ i. 1) s
        (all-weaker (λ i. got m e w i ≤ g) (λ i. where_passes (nat_le (got m e w i) g) 1 ≡ 1) s
        (λ i le. rw (le-leb (got m e w i) g le) refl) each) in
        omega (arith, sum-const 1 s)

-- a group no more than whose members got so much at most is a part of those
pub part-of : (m : Measure) (e : Instance) (w : List Bool) (c g : ℕ) (order : List (ℕ × ℕ)) (t : List ℕ)
    → AreByGot m e w order → has w c ≡ false → IsGroupWithin e t c
    → at_most (most_got m e w t) (gots e w c order) ≤ at_most g (gots e w c order)
    → All (λ i. Contains (up_to m e w c g) i) t
part-of m e w c g order t by unfunded group less =
    let xs = gots e w c order in
    let rises : Rises 0 xs = gots-rise e w c 0 order by.rising (λ k d within. omega arith) in
    All-from_recursion (λ i. Contains (up_to m e w c g) i) t
    (all-both (λ i. IsVoter e i × (approves e i c ≡ true)) (λ i. got m e w i ≤ most_got m e w t)
    (λ i. Contains (up_to m e w c g) i) t
    (λ i supports le. up_to-has m e w c g i supports.0 supports.1 (
    let at = got-stands m e w c i order by unfunded supports.0 supports.1 in
    let high : at.0 < at_most (most_got m e w t) xs =
    at_most-high (most_got m e w t) 0 xs at.0 rises at.1 (omega (arith, at.2, le)) in
    let low = at_most-low g 0 xs at.0 rises (omega (arith, less, high)) in
    omega (arith, at.2, low.1)
    ))
    (each-supports e t c group) (largest-all (got m e w) t))

-- with a group that falls short, the share up to its place is enough there
pub short-place : (m : Measure) (e : Instance) (w : List Bool) (c : ℕ) (xs t : List ℕ) → FallsShort m e w t c
    → (p : Place m e w c xs t)
    → is_enough e (p.k + 1) (need m e c (get_or xs p.k 0)) ≡ true
short-place m e w c xs t short p =
    let one : voters e * need m e c (get_or xs p.k 0) ≤ voters e * need m e c (most_got m e w t) =
    mul-le-mul_left (voters e) (need-rises m e c (get_or xs p.k 0) (most_got m e w t) p.below) in
    let two : voters e * need m e c (most_got m e w t) ≤ length t * e.limit =
    largest-some (λ n. voters e * need m e c n ≤ length t * e.limit) (got m e w) t short.not_empty
    (recursion_from_All (λ i. voters e * need m e c (got m e w i) ≤ length t * e.limit) t short.enough) in
    let three : length t * e.limit ≤ (p.k + 1) * e.limit = mul-le-mul_right e.limit p.few in
    le-leb (voters e * need m e c (get_or xs p.k 0)) ((p.k + 1) * e.limit) (omega (arith, one, two, three))

-- the first v supporters are all that got at most what the last of them got, where no later one got so little
pub exactly : (xs : List ℕ) (v g : ℕ) → Rises 0 xs → 0 < v → v ≤ length xs → get_or xs (v - 1) 0 ≡ g
    → ((k : ℕ) → v ≤ k → k < length xs → get_or xs k 0 ≤ g → ⊥)
    → at_most g xs ≡ v
exactly xs v g rises some within last later =
    let high : v - 1 < at_most g xs = at_most-high g 0 xs (v - 1) rises (omega arith) (omega arith) in
    elim (cases_lt v (at_most g xs)) [
      | inl more ↦ let at = at_most-low g 0 xs v rises more in absurd (later v (omega arith) at.0 at.1)
      | inr less ↦ omega arith
    ]

-- the most that a member of the group got is what bounds it, where a supporter got that
pub bound-is : (m : Measure) (e : Instance) (w : List Bool) (c k : ℕ) (order : List (ℕ × ℕ)) → AreByGot m e w order
    → has w c ≡ false → k < length (gots e w c order)
    → most_got m e w (up_to m e w c (get_or (gots e w c order) k 0)) ≡ get_or (gots e w c order) k 0
bound-is m e w c k order by unfunded within =
    let g = get_or (gots e w c order) k 0 in
    let s = up_to m e w c g in
    let at = stands-got m e w c k order by unfunded within in
    let i = get_or (supporters e c) at.0 0 in
    let member = filter-has (λ j. nat_le (got m e w j) g) (supporters e c) at.0 i at.1
    (get_or_default (supporters e c) at.0 i 0 at.1) (le-leb (got m e w i) g (omega (arith, at.2))) in
    let reached : got m e w i ≤ most_got m e w s =
    All-contains (λ j. got m e w j ≤ most_got m e w s) s i
    (All-from_recursion (λ j. got m e w j ≤ most_got m e w s) s (largest-all (got m e w) s)) member in
    let below : most_got m e w s ≤ g = largest-le (got m e w) s g (up_to-all m e w c g) in
    omega (arith, reached, below, at.2)
