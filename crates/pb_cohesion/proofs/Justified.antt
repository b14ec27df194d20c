-- Under stable prices no group is left with less than it deserves.
use Rattle.std.proofs.Common.{◌≡◌, ℕ, suc, ◌+◌, ◌*◌, ◌<◌, ◌≤◌, Bool, true, List, [], ◌∷◌, length, refl, sym, ◌∙◌, ap, subst, ◌⊎◌, inl, inr, arith, get_or}
use Rattle.std.specs.Prelude.{◌&&◌, not, ◌≢◌, All, Any, sum_by, filter}
use Rattle.std.specs.List.{AllByRecursion}
use Rattle.std.proofs.lemmas.Bool.{cases_Bool, cases_lt}
use Rattle.std.proofs.lemmas.List.Elements.{recursion_from_All}
use Rattle.std.proofs.lemmas.List.Sums.{sum_by-cons}
use Rattle.std.proofs.Math.Nat.{lt_of_mul-lt-mul_left, mul-le-mul_right, mul-lt-mul_of_pos_left, mul_assoc, mul_left_comm}
use Rattle.pb_records.proofs.Each.{all-both, all-weaker}
use Rattle.pb_election.specs.Instance.{Approves, Instance, IsProject, IsVoter, all_projects, approves, cost_of_all, projects, voters}
use Rattle.pb_certificate.specs.Prices.{Prices}
use Rattle.pb_cohesion.specs.Amounts.{beta, cost, paid, pays, spent, top}
use Rattle.pb_election.specs.Outcome.{has}
use Rattle.pb_cohesion.specs.Outcome.{IsFunded, IsUnfunded}
use Rattle.pb_cohesion.specs.Conditions.{C1, C3, C4, Cover, S5}
use Rattle.pb_cohesion.specs.Groups.{AreProjects, IsGroup, Violates, gets, sat}
use Rattle.pb_cohesion.specs.Satisfactions.{by_count}
use Rattle.pb_cohesion.proofs.Sums.{all-among, among, at, range-le, range-same, sum-add, sum-const, sum-exchange, sum-filter, sum-le, sum-mul, sum-set, where_passes}
use Rattle.pb_cohesion.proofs.Sets.{largest-at, set-all, set-le-range}
use Rattle.pb_cohesion.proofs.Plain.{left_ℕ}
use Rattle.pb_cohesion.proofs.Stable.{group-offers, most_ℕ}
use Rattle.pb_cohesion.proofs.Reaches.{costs-in-grains, left-le-most, pays-none, pays-wasted}

-- the funded part of a set, and the rest
abbrev pub funded_part : List Bool → List ℕ → List ℕ
funded_part w t = filter (has w) t

abbrev pub rest_of : List Bool → List ℕ → List ℕ
rest_of w t = filter (λ j. not (has w j)) t

-- a sum over a set is that over both parts
pub sum-parts : (f : ℕ → ℕ) (w : List Bool) (t : List ℕ)
    → sum_by f t ≡ sum_by f (funded_part w t) + sum_by f (rest_of w t)
sum-parts f w [] = refl
sum-parts f w (j ∷ js) = grind (arith, cases_Bool, sum_by-cons, sum-parts f w js)

-- how many elements a list has, as a sum
pub sum-ones : (xs : List ℕ) → sum_by (λ x. 1) xs ≡ length xs
sum-ones xs = omega (arith, sum-const 1 xs)

-- what a voter gets outside a set
abbrev pub others : Instance → List Bool → List ℕ → ℕ → ℕ → ℕ
others e w t i j = where_passes (not (among t j)) (where_passes (approves e i j && has w j) 1)

-- what a voter gets is the funded part of a set that it approves, and what it gets outside
pub gets-parts : (e : Instance) (w : List Bool) (t : List ℕ) (i : ℕ) → AreProjects e t
    → AllByRecursion (λ j. Approves e i j) t
    → length (gets e w i) ≡ length (funded_part w t) + sum_by (others e w t i) (all_projects e)
gets-parts e w t i projects_t approve =
    let got : length (gets e w i) ≡ sum_by (λ j. where_passes (approves e i j && has w j) 1) (all_projects e) =
    sym (sum-ones (gets e w i)) ∙ sum-filter (λ j. 1) (λ j. approves e i j && has w j) (all_projects e) in
    let inside : length (funded_part w t) ≡ sum_by (λ j. where_passes (has w j) 1) t =
    sym (sum-ones (funded_part w t)) ∙ sum-filter (λ j. 1) (has w) t in
    let inside_all : sum_by (λ j. where_passes (has w j) 1) t
    ≡ sum_by (at (λ j. where_passes (has w j) 1) t) (all_projects e) =
    sum-set (λ j. where_passes (has w j) 1) (projects e) 1 (projects e) t (omega arith) projects_t in
    let each : sum_by (λ j. where_passes (approves e i j && has w j) 1) (all_projects e)
    ≡ sum_by (λ j. at (λ k. where_passes (has w k) 1) t j + others e w t i j) (all_projects e)
    = range-same _ _ 1 (projects e) (λ j low high. split j) in
    got ∙ each ∙ sum-add (at (λ k. where_passes (has w k) 1) t) (others e w t i) (all_projects e)
    ∙ ap (λ n. n + sum_by (others e w t i) (all_projects e)) (sym (inside ∙ inside_all))
  where
    split : (j : ℕ) → where_passes (approves e i j && has w j) 1
        ≡ at (λ k. where_passes (has w k) 1) t j + others e w t i j
    split j = elim (cases_Bool (among t j)) [
      | inl in' ↦ rw (in', all-among (λ k. approves e i k ≡ true) t j approve in') (omega arith)
      | inr out ↦ rw out (omega arith)
    ]

-- what a voter spends goes to the funded part of a set, or to other projects that it gets
pub spent-parts : (e : Instance) (w : List Bool) (p : Prices) (t : List ℕ) (i : ℕ) → C1 e p → C4 e w p → IsVoter e i
    → AreProjects e t
    → spent e p i ≤ sum_by (pays p i) (funded_part w t) + top e p i * sum_by (others e w t i) (all_projects e)
spent-parts e w p t i approved none_wasted v projects_t =
    let inside : sum_by (pays p i) (funded_part w t) ≡ sum_by (λ j. where_passes (has w j) (pays p i j)) t =
    sum-filter (pays p i) (has w) t in
    let inside_all : sum_by (λ j. where_passes (has w j) (pays p i j)) t
    ≡ sum_by (at (λ j. where_passes (has w j) (pays p i j)) t) (all_projects e) =
    sum-set (λ j. where_passes (has w j) (pays p i j)) (projects e) 1 (projects e) t (omega arith) projects_t in
    let each : spent e p i
    ≤ sum_by (λ j. at (λ k. where_passes (has w k) (pays p i k)) t j + top e p i * others e w t i j)
    (all_projects e)
    = range-le _ _ 1 (projects e) (λ j low high. split j (low, omega arith)) in
    omega (
      arith,
      sum-add (at (λ k. where_passes (has w k) (pays p i k)) t) (λ j. top e p i * others e w t i j)
          (all_projects e),
      sum-mul (top e p i) (others e w t i) (all_projects e),
    )
  where
    split : (j : ℕ) → IsProject e j
        → pays p i j ≤ at (λ k. where_passes (has w k) (pays p i k)) t j + top e p i * others e w t i j
    split j project = elim (cases_Bool (has w j)) [
      | inr no' ↦ (let none : pays p i j ≡ 0 = pays-wasted e w p i j none_wasted v project no' in omega arith)
      | inl yes' ↦ elim (cases_Bool (among t j)) [
        | inl in' ↦ rw (in', yes') (omega arith)
        | inr out ↦ elim (cases_Bool (approves e i j)) [
          | inl a ↦
              (let most : pays p i j ≤ top e p i = largest-at (λ c. pays p i c) (projects e) 1 j project.0
              (let high : j ≤ projects e = project.1 in omega arith) in rw (out, a, yes') (omega arith))
          | inr a ↦ (let none : pays p i j ≡ 0 = pays-none e p i j approved v project a in omega arith)
        ]
      ]
    ]

-- so many payments at most, and one offer, are at most as many offers and one more
times-le : (t m v r : ℕ) → t ≤ m → v < r → t * v + m ≤ r * m
times-le t m v r a b = grind arith

-- a member that gets less than the whole set has a budget of at most what it pays inside, its offers for the rest but
-- one, and what it has left
pub budget-le : (e : Instance) (w : List Bool) (p : Prices) (t : List ℕ) (i : ℕ) → C1 e p → C4 e w p → IsVoter e i
    → AreProjects e t → AllByRecursion (λ j. Approves e i j) t
    → length (gets e w i) < length t
    → beta p + most_ℕ e p i
    ≤ sum_by (pays p i) (funded_part w t) + (length (rest_of w t) * most_ℕ e p i + left_ℕ e p i)
budget-le e w p t i approved none_wasted v projects_t approve less =
    let whole : length t ≡ length (funded_part w t) + length (rest_of w t) =
    sym (sum-ones t) ∙ sum-parts (λ j. 1) w t
    ∙ (omega (arith, sum-ones (funded_part w t), sum-ones (rest_of w t))) in
    let few : sum_by (others e w t i) (all_projects e) < length (rest_of w t) =
    omega (arith, gets-parts e w t i projects_t approve) in
    let bound : top e p i * sum_by (others e w t i) (all_projects e) + most_ℕ e p i
    ≤ length (rest_of w t) * most_ℕ e p i = times-le _ _ _ _ (omega arith) few in
    omega (arith, spent-parts e w p t i approved none_wasted v projects_t)

-- some member gets at least so many, or each gets fewer
pub some-or-each : (g : ℕ → ℕ) (k : ℕ) (s : List ℕ) → Any (λ i. k ≤ g i) s ⊎ AllByRecursion (λ i. g i < k) s
some-or-each g k [] = inr tt
some-or-each g k (i ∷ s) = elim (cases_lt (g i) k) [
  | inr enough ↦ inl (0, i, omega arith, refl, enough)
  | inl less ↦ elim (some-or-each g k s) [
    | inl some ↦ inl (suc some.0, some.1, (let within : some.0 < length s = some.2 in omega arith), some.3, some.4)
    | inr each ↦ inr (less, each)
  ]
]

-- the funded part of a set has funded projects alone, and the rest unfunded ones
pub funded-each : (e : Instance) (w : List Bool) (t : List ℕ) → AllByRecursion (IsProject e) t
    → AllByRecursion (IsFunded e w) (funded_part w t)
funded-each e w [] h = tt
funded-each e w (j ∷ js) h = elim (cases_Bool (has w j)) [
  | inl yes' ↦ rw yes' ((h.0, yes'), funded-each e w js h.1)
  | inr no' ↦ rw no' (funded-each e w js h.1)
]

-- what holds of each element of a set holds of the rest, each of which is unfunded
pub rest-each : (e : Instance) (w : List Bool) (P : ℕ → Type 0) (t : List ℕ) → AllByRecursion (IsProject e) t
    → AllByRecursion P t → AllByRecursion (λ j. IsUnfunded e w j × P j) (rest_of w t)
rest-each e w P [] h k = tt
rest-each e w P (j ∷ js) h k = elim (cases_Bool (has w j)) [
  | inl yes' ↦ rw yes' (rest-each e w P js h.1 k.1)
  | inr no' ↦ rw no' (((h.0, no'), k.0), rest-each e w P js h.1 k.1)
]

-- if each member of s approves each project of t, each project of t is approved by each member of s
pub all-turned : (P : ℕ → ℕ → Type 0) (s t : List ℕ) → All (λ i. All (P i) t) s → All (λ j. All (λ i. P i j) s) t
all-turned P s t h k d within l b low = h l b low k d within

-- where each member of a group gets less than a set, its budgets come to at most what the funded part costs, the offers
-- for the rest but one, and what is left
pub group-parts : (e : Instance) (w : List Bool) (p : Prices) (s t : List ℕ) → C1 e p → C3 e w p → C4 e w p
    → IsGroup e s → AreProjects e t
    → All (λ i. All (Approves e i) t) s → AllByRecursion (λ i. length (gets e w i) < length t) s
    → length s * beta p + sum_by (most_ℕ e p) s
    ≤ sum_by (cost e p) (funded_part w t)
    + (length (rest_of w t) * sum_by (most_ℕ e p) s + sum_by (left_ℕ e p) s)
group-parts e w p s t approved paid_for none_wasted group projects_t approve less =
    let members : AllByRecursion (IsVoter e) s = set-all (IsVoter e) 1 (voters e) s group (λ i low high. (low, high)) in
    let in_t : AllByRecursion (IsProject e) t =
    set-all (IsProject e) 1 (projects e) t projects_t (λ j low high. (low, high)) in
    let approve_each : AllByRecursion (λ i. All (Approves e i) t) s =
    recursion_from_All (λ i. All (Approves e i) t) s approve in
    let known : AllByRecursion (λ i. IsVoter e i × All (Approves e i) t) s =
    all-both (IsVoter e) (λ i. All (Approves e i) t) (λ i. IsVoter e i × All (Approves e i) t) s (λ i v a. (v, a))
    members approve_each in
    let each : AllByRecursion (λ i. beta p + most_ℕ e p i
    ≤ sum_by (pays p i) (funded_part w t) + (length (rest_of w t) * most_ℕ e p i + left_ℕ e p i)) s
    = all-both (λ i. IsVoter e i × All (Approves e i) t) (λ i. length (gets e w i) < length t)
    (λ i. beta p + most_ℕ e p i
    ≤ sum_by (pays p i) (funded_part w t) + (length (rest_of w t) * most_ℕ e p i + left_ℕ e p i)) s
    (λ i k l. budget-le e w p t i approved none_wasted k.0 projects_t (recursion_from_All (Approves e i) t k.1) l) known
    less in
    let budgets : sum_by (λ i. beta p + most_ℕ e p i) s
    ≤ sum_by (λ i. sum_by (pays p i) (funded_part w t) + (length (rest_of w t) * most_ℕ e p i + left_ℕ e p i)) s =
    sum-le _ _ s each in
    let swapped : sum_by (λ i. sum_by (pays p i) (funded_part w t)) s
    ≡ sum_by (λ j. sum_by (λ i. pays p i j) s) (funded_part w t) = sum-exchange (pays p) s (funded_part w t) in
    let inside : sum_by (λ j. sum_by (λ i. pays p i j) s) (funded_part w t) ≤ sum_by (cost e p) (funded_part w t)
    = sum-le _ _ (funded_part w t)
    (all-weaker (IsFunded e w) (λ j. sum_by (λ i. pays p i j) s ≤ cost e p j) (funded_part w t)
    (λ j f.
    (let whole : paid e p j ≡ cost e p j = paid_for j f in let part : sum_by (λ i. pays p i j) s
    ≤ paid e p j = set-le-range (λ i. pays p i j) (voters e) s group in omega arith)) (funded-each e w t in_t)) in
    omega (
      arith,
      sum-const (beta p) s,
      sum-add (λ i. beta p) (most_ℕ e p) s,
      sum-add (λ i. sum_by (pays p i) (funded_part w t))
          (λ i. length (rest_of w t) * most_ℕ e p i + left_ℕ e p i) s,
      sum-add (λ i. length (rest_of w t) * most_ℕ e p i) (left_ℕ e p) s,
      sum-mul (length (rest_of w t)) (most_ℕ e p) s,
    )

-- each of the rest is unfunded and costs at least what the group can offer
pub rest-costs : (e : Instance) (w : List Bool) (p : Prices) (s t : List ℕ) → S5 e w p → IsGroup e s → AreProjects e t
    → All (λ i. All (Approves e i) t) s
    → AllByRecursion (λ j. IsUnfunded e w j × (sum_by (most_ℕ e p) s ≤ cost e p j)) (rest_of w t)
rest-costs e w p s t stable group projects_t approve =
    let in_t : AllByRecursion (IsProject e) t =
    set-all (IsProject e) 1 (projects e) t projects_t (λ j low high. (low, high)) in
    all-weaker (λ j. IsUnfunded e w j × All (λ i. Approves e i j) s)
    (λ j. IsUnfunded e w j × (sum_by (most_ℕ e p) s ≤ cost e p j)) (rest_of w t)
    (λ j k. (k.0, group-offers e w p s j stable k.0 (group, k.1)))
    (rest-each e w (λ j. All (λ i. Approves e i j) s) t in_t
    (recursion_from_All (λ j. All (λ i. Approves e i j) s) t (all-turned (Approves e) s t approve)))

-- so many offers are at most what as many projects cost, each of which costs no less than one
pub offers-le : (e : Instance) (w : List Bool) (p : Prices) (most : ℕ) (rest : List ℕ)
    → AllByRecursion (λ j. IsUnfunded e w j × (most ≤ cost e p j)) rest → length rest * most ≤ sum_by (cost e p) rest
offers-le e w p most rest each =
    let all : sum_by (λ j. most) rest ≤ sum_by (cost e p) rest =
    sum-le _ _ rest (all-weaker (λ j. IsUnfunded e w j × (most ≤ cost e p j)) (λ j. most ≤ cost e p j) rest (λ j k. k.1)
    each) in
    omega (arith, sum-const most rest)

-- where each member of a group gets less than a set, its budgets come to at most what the set costs
pub all_less : (e : Instance) (w : List Bool) (p : Prices) (s t : List ℕ) → C1 e p → C3 e w p → C4 e w p → S5 e w p
    → IsGroup e s → AreProjects e t
    → All (λ i. All (Approves e i) t) s → AllByRecursion (λ i. length (gets e w i) < length t) s
    → length s * beta p ≤ sum_by (cost e p) t
all_less e w p s t approved paid_for none_wasted stable group projects_t approve less =
    omega (
      arith,
      group-parts e w p s t approved paid_for none_wasted group projects_t approve less,
      offers-le e w p (sum_by (most_ℕ e p) s) (rest_of w t) (rest-costs e w p s t stable group projects_t approve),
      left-le-most e p s,
      sum-parts (cost e p) w t,
    )

pub stable_is_fair : (e : Instance) (w : List Bool) (p : Prices) (s t : List ℕ) → C1 e p → C3 e w p → C4 e w p
    → S5 e w p → IsGroup e s → AreProjects e t
    → All (λ i. All (λ j. Approves e i j) t) s → sum_by (cost e p) t < length s * beta p
    → Any (λ i. length t ≤ length (gets e w i)) s
stable_is_fair e w p s t approved paid_for none_wasted stable group projects_t approve rich =
    elim (some-or-each (λ i. length (gets e w i)) (length t) s) [
      | inl some ↦ some
      | inr each ↦
          (let poor : length s * beta p ≤ sum_by (cost e p) t = all_less e w p s t approved paid_for none_wasted stable
          group projects_t approve each in absurd (omega arith))
    ]

-- a list that isn't empty has an element
pub not-empty : (s : List ℕ) → s ≢ [] → 0 < length s
not-empty [] h = absurd (h refl)
not-empty (i ∷ s) h = omega arith

-- where the budgets together exceed the limit, those of a cohesive group exceed what its set costs
pub cohesive-rich : (n c d b l s : ℕ) → 0 < s → n * c ≤ s * l → l * d < n * b → c * d < s * b
cohesive-rich n c d b l s some large cover =
    let first : n * c * d ≤ s * l * d = mul-le-mul_right d large in
    let second : s * (l * d) < s * (n * b) = mul-lt-mul_of_pos_left cover some in
    let shape : n * (c * d) < n * (s * b) =
    (omega (arith, first, second, mul_assoc n c d, mul_assoc s l d, mul_left_comm s n b)) in
    lt_of_mul-lt-mul_left n shape

pub stable_has_no_violation : (e : Instance) (w : List Bool) (p : Prices) (s t : List ℕ) → C1 e p → C3 e w p → C4 e w p
    → S5 e w p → Cover e p
    → IsGroup e s → AreProjects e t → Violates by_count e w s t → ⊥
stable_has_no_violation e w p s t approved paid_for none_wasted stable cover group projects_t v =
    let costs : sum_by (cost e p) t ≡ cost_of_all e t * p.denominator = costs-in-grains e p t in
    let rich : cost_of_all e t * p.denominator < length s * beta p =
    cohesive-rich (voters e) (cost_of_all e t) p.denominator (beta p) e.limit (length s)
    (not-empty s v.cohesive.not_empty) v.cohesive.large cover in
    let some : Any (λ i. length t ≤ length (gets e w i)) s =
    stable_is_fair e w p s t approved paid_for none_wasted stable group projects_t v.cohesive.approve
    (omega arith) in
    let less : sat by_count (gets e w (get_or s some.0 some.1)) < sat by_count t = v.less some.0 some.1 some.2 in
    let less_here : sat by_count (gets e w some.1) < sat by_count t =
    subst (λ i. sat by_count (gets e w i) < sat by_count t) some.3 less in
    absurd (omega (arith, sum-ones t, sum-ones (gets e w some.1)))
