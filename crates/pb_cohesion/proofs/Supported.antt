-- The supporters of a project that got at most so much, and how many they are.
use Rattle.std.proofs.Common.{◌≡◌, ℕ, zero, suc, ◌+◌, ◌<◌, ◌≤◌, Bool, true, false, List, [], ◌∷◌, length, get_or, max, refl, sym, ◌∙◌, ap, subst, inl, inr, arith}
use Rattle.std.specs.Prelude.{◌≢◌, ◌&&◌, ◌==◌, Contains, filter, nat_le, sum_by}
use Rattle.std.specs.List.{AllByRecursion, range_with_len}
use Rattle.std.proofs.lemmas.Bool.{cases_Bool, cases_eq, cases_lt, eq-eqb, eqb-true, le-leb, leb-true}
use Rattle.std.proofs.lemmas.List.Elements.{All-from_recursion, recursion_from_All}
use Rattle.std.proofs.lemmas.List.{get_or_default}
use Rattle.std.proofs.lemmas.List.Sums.{sum_by-cons}
use Rattle.std.proofs.Math.Nat.{mul-le-mul_left}
use Rattle.pb_election.specs.Instance.{Instance, IsSet, IsVoter, all_voters, approves, cost_of, supporters, voters}
use Rattle.pb_election.specs.Outcome.{has}
use Rattle.pb_certificate.proofs.Unique.{filter-set}
use Rattle.pb_certificate.specs.declared.violations.measure.Measure.{Measure}
use Rattle.pb_certificate.specs.declared.violations.measure.Measure.TheVariants.{ByCount, ByCost}
use Rattle.pb_records.proofs.Each.{all-both, all-filter, all-weaker}
use Rattle.pb_cohesion.specs.Amounts.{largest_by}
use Rattle.pb_cohesion.specs.Closest.{up_to}
use Rattle.pb_cohesion.specs.Groups.{IsGroupWithin}
use Rattle.pb_cohesion.specs.Inside.Counting.{AreByGot, gots}
use Rattle.pb_cohesion.specs.Short.{got, need}
use Rattle.pb_cohesion.proofs.Culprits.{filter-filter}
use Rattle.pb_cohesion.proofs.Order.{supporters-sum}
use Rattle.pb_cohesion.proofs.Rising.{at_most}
use Rattle.pb_cohesion.proofs.Sets.{filter-all, set-all}
use Rattle.pb_cohesion.proofs.Sums.{sum-const, sum-filter, where_passes}

-- what a share has to come to rises with what a member got
pub need-rises : (m : Measure) (e : Instance) (c a b : ℕ) → a ≤ b → need m e c a ≤ need m e c b
need-rises ByCost e c a b le = omega arith
need-rises ByCount e c a b le = mul-le-mul_left (cost_of e c) (more a b le)
  where
    more : (x y : ℕ) → x ≤ y → x + 1 ≤ y + 1
    more x y h = omega arith

-- the largest value on a list is at least each, and is one of them
pub largest-all : (f : ℕ → ℕ) (t : List ℕ) → AllByRecursion (λ i. f i ≤ largest_by f t) t
largest-all f [] = tt
largest-all f (x ∷ xs) = (
  omega arith,
  all-weaker (λ i. f i ≤ largest_by f xs) (λ i. f i ≤ max (f x) (largest_by f xs)) xs
      (λ i le. omega arith) (largest-all f xs),
)

pub largest-some : (P : ℕ → Type 0) (f : ℕ → ℕ) (t : List ℕ) → t ≢ [] → AllByRecursion (λ i. P (f i)) t
    → P (largest_by f t)
largest-some P f [] some each = absurd (some refl)
largest-some P f (x ∷ []) some each = subst P (only (f x)) each.0
  where
    only : (n : ℕ) → n ≡ max n 0
    only n = omega arith
largest-some P f (x ∷ y ∷ ys) some each =
    let rest : P (largest_by f (y ∷ ys)) = largest-some P f (y ∷ ys) (λ e. cc) each.1 in
    either (f x) (largest_by f (y ∷ ys)) each.0 rest
  where
    higher : (a b : ℕ) → a < b → b ≡ max a b
    higher a b lt = omega arith

    lower : (a b : ℕ) → b ≤ a → a ≡ max a b
    lower a b ge = omega arith

    either : (a b : ℕ) → P a → P b → P (max a b)
    either a b p q = elim (cases_lt a b) [
      | inl lt ↦ subst P (higher a b lt) q
      | inr ge ↦ subst P (lower a b ge) p
    ]

pub largest-le : (f : ℕ → ℕ) (t : List ℕ) (n : ℕ) → AllByRecursion (λ i. f i ≤ n) t → largest_by f t ≤ n
largest-le f [] n each = omega arith
largest-le f (x ∷ xs) n each =
    let here : f x ≤ n = each.0 in
    let rest : largest_by f xs ≤ n = largest-le f xs n each.1 in
    omega arith

-- an element that passes a test counts, and where one counts there is one
pub some-counts : (q : ℕ → Bool) (xs : List ℕ) (k : ℕ) → k < length xs → q (get_or xs k 0) ≡ true
    → 0 < sum_by (λ x. where_passes (q x) 1) xs
some-counts q [] k h pass = absurd (omega arith)
some-counts q (x ∷ xs) zero h pass = rw (sum_by-cons (λ y. where_passes (q y) 1) x xs, pass) (omega arith)
some-counts q (x ∷ xs) (suc k) h pass =
    let rest : 0 < sum_by (λ y. where_passes (q y) 1) xs = some-counts q xs k (omega arith) pass in
    rw (sum_by-cons (λ y. where_passes (q y) 1) x xs) (omega arith)

pub counted-some : (q : ℕ → Bool) (xs : List ℕ) → 0 < sum_by (λ x. where_passes (q x) 1) xs
    → (k : ℕ) × (k < length xs) × (q (get_or xs k 0) ≡ true)
counted-some q [] h = absurd (omega arith)
counted-some q (x ∷ xs) h = elim (cases_Bool (q x)) [
  | inl yes' ↦ (0, omega arith, yes')
  | inr no' ↦
      let is : sum_by (λ y. where_passes (q y) 1) (x ∷ xs) ≡ sum_by (λ y. where_passes (q y) 1) xs =
      rw (sum_by-cons (λ y. where_passes (q y) 1) x xs, no') (omega arith) in
      let rest = counted-some q xs (omega arith) in
      (suc rest.0, omega (arith, rest.1), rest.2)
]

-- the supporters that got at most so much are a group
pub up_to-is : (m : Measure) (e : Instance) (w : List Bool) (c g : ℕ)
    → up_to m e w c g ≡ filter (λ i. approves e i c && nat_le (got m e w i) g) (all_voters e)
up_to-is m e w c g = filter-filter (λ i. nat_le (got m e w i) g) (λ i. approves e i c) (all_voters e)

pub up_to-group : (m : Measure) (e : Instance) (w : List Bool) (c g : ℕ) → IsGroupWithin e (up_to m e w c g) c
up_to-group m e w c g = (
  subst (IsSet 1 (voters e)) (sym (up_to-is m e w c g))
      (filter-set (λ i. approves e i c && nat_le (got m e w i) g) (voters e) 1 (voters e) (omega arith)),
  All-from_recursion (λ i. approves e i c ≡ true) (up_to m e w c g)
      (all-filter (λ i. approves e i c ≡ true) (λ i. nat_le (got m e w i) g) (supporters e c)
      (filter-all (λ i. approves e i c) (all_voters e))),
)

-- each of them got at most that
pub up_to-all : (m : Measure) (e : Instance) (w : List Bool) (c g : ℕ)
    → AllByRecursion (λ i. got m e w i ≤ g) (up_to m e w c g)
up_to-all m e w c g =
    all-weaker (λ i. nat_le (got m e w i) g ≡ true) (λ i. got m e w i ≤ g) (up_to m e w c g)
    (λ i pass. leb-true (got m e w i) g pass) (filter-all (λ i. nat_le (got m e w i) g) (supporters e c))

-- and how many they are
pub up_to-length : (m : Measure) (e : Instance) (w : List Bool) (c g : ℕ) (order : List (ℕ × ℕ)) → AreByGot m e w order
    → has w c ≡ false → length (up_to m e w c g) ≡ at_most g (gots e w c order)
up_to-length m e w c g order by unfunded =
    length-is (up_to m e w c g)
    ∙ sum-filter (λ i. 1) (λ i. nat_le (got m e w i) g) (supporters e c)
    ∙ sym (supporters-sum (λ n. where_passes (nat_le n g) 1) m e w c order by unfunded)
  where
    length-is : (t : List ℕ) → length t ≡ sum_by (λ i. 1) t
    length-is t = omega (arith, sum-const 1 t)

-- a number of a range that passes a test is one of those that pass
pub range-has : (n a i : ℕ) → a ≤ i → i < a + n → Contains (range_with_len a n) i
range-has zero a i low high = absurd (omega arith)
range-has (suc n) a i low high = elim (cases_eq a i) [
  | inl e ↦ (0, omega arith, e)
  | inr ne ↦ let rest = range-has n (a + 1) i (omega arith) (omega arith) in (suc rest.0, omega (arith, rest.1), rest.2)
]

pub filter-has : (q : ℕ → Bool) (xs : List ℕ) (k i : ℕ) → k < length xs → get_or xs k i ≡ i → q i ≡ true
    → Contains (filter q xs) i
filter-has q [] k i h is pass = absurd (omega arith)
filter-has q (x ∷ xs) zero i h is pass = rw (ap q is ∙ pass) (0, omega arith, is)
filter-has q (x ∷ xs) (suc k) i h is pass =
    let rest = filter-has q xs k i (omega arith) is pass in
    elim (cases_Bool (q x)) [ inl y ↦ rw y (suc rest.0, omega (arith, rest.1), rest.2) | inr n ↦ rw n rest ]

-- a supporter that got at most so much is one of those
pub up_to-has : (m : Measure) (e : Instance) (w : List Bool) (c g i : ℕ) → IsVoter e i → approves e i c ≡ true
    → got m e w i ≤ g → Contains (up_to m e w c g) i
up_to-has m e w c g i voter approves_it le =
    let all = range-has (voters e) 1 i voter.0 (omega (arith, voter.1)) in
    let supporter = filter-has (λ j. approves e j c) (all_voters e) all.0 i all.1 all.2 approves_it in
    filter-has (λ j. nat_le (got m e w j) g) (supporters e c) supporter.0 i supporter.1 supporter.2
    (le-leb (got m e w i) g le)

-- what a supporter got stands among what supporters got
pub got-stands : (m : Measure) (e : Instance) (w : List Bool) (c i : ℕ) (order : List (ℕ × ℕ)) → AreByGot m e w order
    → has w c ≡ false → IsVoter e i → approves e i c ≡ true
    → (k : ℕ) × (k < length (gots e w c order)) × (get_or (gots e w c order) k 0 ≡ got m e w i)
got-stands m e w c i order by unfunded voter approves_it =
    let all = range-has (voters e) 1 i voter.0 (omega (arith, voter.1)) in
    let supporter = filter-has (λ j. approves e j c) (all_voters e) all.0 i all.1 all.2 approves_it in
    let here : get_or (supporters e c) supporter.0 0 ≡ i =
    get_or_default (supporters e c) supporter.0 0 i supporter.1 ∙ supporter.2 in
    let some : 0 < sum_by (λ j. where_passes (got m e w j == got m e w i) 1) (supporters e c) =
    some-counts (λ j. got m e w j == got m e w i) (supporters e c) supporter.0 supporter.1
    (eq-eqb (got m e w (get_or (supporters e c) supporter.0 0)) (got m e w i) (ap (got m e w) here)) in
    let found = counted-some (λ n. n == got m e w i) (gots e w c order)
    (subst (λ n. 0 < n) (sym (supporters-sum (λ n. where_passes (n == got m e w i) 1) m e w c order by unfunded)) some) in
    (found.0, found.1, eqb-true (get_or (gots e w c order) found.0 0) (got m e w i) found.2)

-- and the other way round
pub stands-got : (m : Measure) (e : Instance) (w : List Bool) (c k : ℕ) (order : List (ℕ × ℕ)) → AreByGot m e w order
    → has w c ≡ false → k < length (gots e w c order)
    → (j : ℕ) × (j < length (supporters e c)) × (got m e w (get_or (supporters e c) j 0) ≡ get_or (gots e w c order) k 0)
stands-got m e w c k order by unfunded within =
    let n = get_or (gots e w c order) k 0 in
    let some : 0 < sum_by (λ x. where_passes (x == n) 1) (gots e w c order) =
    some-counts (λ x. x == n) (gots e w c order) k within (eq-eqb (get_or (gots e w c order) k 0) n refl) in
    let found = counted-some (λ i. got m e w i == n) (supporters e c)
    (subst (λ s. 0 < s) (supporters-sum (λ x. where_passes (x == n) 1) m e w c order by unfunded) some) in
    (found.0, found.1, eqb-true (got m e w (get_or (supporters e c) found.0 0)) n found.2)

-- the members of a group of supporters are voters that approve c
pub each-supports : (e : Instance) (t : List ℕ) (c : ℕ) → IsGroupWithin e t c
    → AllByRecursion (λ i. IsVoter e i × (approves e i c ≡ true)) t
each-supports e t c group =
    all-both (IsVoter e) (λ i. approves e i c ≡ true) (λ i. IsVoter e i × (approves e i c ≡ true)) t
    (λ i v a. (v, a)) (set-all (IsVoter e) 1 (voters e) t group.0 (λ i low high. (low, high)))
    (recursion_from_All (λ i. approves e i c ≡ true) t group.1)
