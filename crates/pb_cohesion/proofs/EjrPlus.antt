-- Where no group falls short: what that says of other groups, outcomes and limits, and that it follows from stable prices.
use Rattle.std.proofs.Common.{◌≡◌, ℕ, suc, ◌+◌, ◌*◌, ◌<◌, ◌≤◌, Bool, true, false, List, [], ◌∷◌, length, sym, ◌∙◌, ap, subst, inl, inr, arith, get_or}
use Rattle.std.specs.Prelude.{◌↔◌, ◌&&◌, IsFalse, sum_by}
use Rattle.std.specs.List.{AllByRecursion, list_any}
use Rattle.std.proofs.lemmas.Bool.{cases_Bool}
use Rattle.std.proofs.lemmas.List.Elements.{All-from_recursion, recursion_from_All}
use Rattle.std.proofs.lemmas.List.Sums.{sum_by-cons}
use Rattle.std.proofs.Math.Nat.{le_of_mul-le-mul_left, le_of_mul-le-mul_right, lt_of_mul-lt-mul_right, mul-le-mul_left, mul-le-mul_right, mul_comm}
use Rattle.pb_records.proofs.Each.{all-both, all-fail, all-weaker}
use Rattle.pb_certificate.specs.Prices.{Prices}
use Rattle.pb_certificate.specs.declared.violations.measure.Measure.{Measure}
use Rattle.pb_certificate.specs.declared.violations.measure.Measure.TheVariants.{ByCount, ByCost}
use Rattle.pb_election.specs.Instance.{Instance, IsProject, IsVoter, all_projects, approves, cost_of, projects, voters}
use Rattle.pb_election.specs.Outcome.{has}
use Rattle.pb_cohesion.specs.Amounts.{beta, cost, spent, top}
use Rattle.pb_cohesion.specs.Conditions.{C1, C2, C3, C4, Cover, Exhaustive, S5}
use Rattle.pb_cohesion.specs.EveryGroup.{BudgetsAreTheLimit}
use Rattle.pb_cohesion.specs.Groups.{IsGroup, PassesOver, funded_for, gets, sat}
use Rattle.pb_cohesion.specs.Larger.{FundsNoLess, with_limit}
use Rattle.pb_cohesion.specs.Satisfactions.{by_cost, worth_by}
use Rattle.pb_cohesion.specs.Short.{FallsShort, SatisfiesEjrPlus, got, need}
use Rattle.pb_cohesion.proofs.Supported.{need-rises}
use Rattle.pb_cohesion.proofs.Exhausted.{little-left}
use Rattle.pb_cohesion.proofs.Justified.{cohesive-rich, gets-parts, not-empty, others, spent-parts, sum-ones}
use Rattle.pb_cohesion.proofs.Plain.{left_ℕ}
use Rattle.pb_cohesion.proofs.Sets.{set-all}
use Rattle.pb_cohesion.proofs.Shares.{some-voter}
use Rattle.pb_cohesion.proofs.Stable.{group-offers, most_ℕ}
use Rattle.pb_cohesion.proofs.Sums.{range-le, range-same, sum-const, sum-filter, sum-le, sum-mul, where_passes}

-- what a member got by cost is at most what was funded for the group together
got-le : (e : Instance) (w : List Bool) (s : List ℕ) (k d : ℕ) → k < length s
    → sat (by_cost e) (gets e w (get_or s k d)) ≤ funded_for e w s
got-le e w s k d within =
    let each : sum_by (λ j. where_passes (approves e (get_or s k d) j && has w j) (cost_of e j)) (all_projects e)
    ≤ sum_by (λ j. where_passes (has w j && list_any (λ i. approves e i j) s) (cost_of e j)) (all_projects e)
    = range-le _ _ 1 (projects e) (λ j low high. below j) in
    omega (
      arith,
      sum-filter (cost_of e) (λ j. approves e (get_or s k d) j && has w j) (all_projects e),
      sum-filter (cost_of e) (λ j. has w j && list_any (λ i. approves e i j) s) (all_projects e),
    )
  where
    below : (j : ℕ) → where_passes (approves e (get_or s k d) j && has w j) (cost_of e j)
        ≤ where_passes (has w j && list_any (λ i. approves e i j) s) (cost_of e j)
    below j = elim (cases_Bool (list_any (λ i. approves e i j) s)) [
      | inl some ↦ grind (arith, cases_Bool)
      | inr none ↦
          let no' : approves e (get_or s k d) j ≡ false =
          All-from_recursion (λ i. approves e i j ≡ false) s (all-fail (λ i. approves e i j) s none) k d within in
          rw no' (omega arith)
    ]

pub none_passed_over_by_cost : (e : Instance) (w : List Bool) (s : List ℕ) (c : ℕ) → SatisfiesEjrPlus ByCost e w
    → PassesOver e w s c → ⊥
none_passed_over_by_cost e w s c fair passed = fair s c (record {
  not_empty = passed.not_empty;
  unfunded = passed.unfunded;
  group = passed.group;
  enough = λ k d within. (
      let got_here : sat (by_cost e) (gets e w (get_or s k d)) ≤ funded_for e w s = got-le e w s k d within in
      let needs : voters e * (cost_of e c + sat (by_cost e) (gets e w (get_or s k d)))
      ≤ voters e * (cost_of e c + funded_for e w s) = mul-le-mul_left (voters e) (omega arith) in
      let large : voters e * (cost_of e c + funded_for e w s) ≤ length s * e.limit = passed.large in
      omega arith);
})

-- where more is funded a voter gets no less
gets-more : (f : ℕ → ℕ) (e : Instance) (w v : List Bool) (i : ℕ) → FundsNoLess e v w
    → sat f (gets e w i) ≤ sat f (gets e v i)
gets-more f e w v i more =
    let each : sum_by (λ j. where_passes (approves e i j && has w j) (f j)) (all_projects e)
    ≤ sum_by (λ j. where_passes (approves e i j && has v j) (f j)) (all_projects e)
    = range-le _ _ 1 (projects e) (λ j low high. below j (low, omega arith)) in
    omega (
      arith,
      sum-filter f (λ j. approves e i j && has w j) (all_projects e),
      sum-filter f (λ j. approves e i j && has v j) (all_projects e),
    )
  where
    below : (j : ℕ) → IsProject e j
        → where_passes (approves e i j && has w j) (f j) ≤ where_passes (approves e i j && has v j) (f j)
    below j project = elim (cases_Bool (has w j)) [
      | inl yes' ↦ (let kept : has v j ≡ true = (more j (project, yes')).1 in rw (yes', kept) (omega arith))
      | inr no' ↦ grind (arith, cases_Bool)
    ]

-- a project that is unfunded where more is funded is unfunded where less is
still-unfunded : (e : Instance) (w v : List Bool) (c : ℕ) → FundsNoLess e v w → IsProject e c → IsFalse (has v c)
    → IsFalse (has w c)
still-unfunded e w v c more project no' = elim (cases_Bool (has w c)) [
  | inl yes' ↦ (let kept : has v c ≡ true = (more c (project, yes')).1 in cc)
  | inr left' ↦ left'
]

pub larger_stays_good : (m : Measure) (e : Instance) (w v : List Bool) (s : List ℕ) (c : ℕ) → SatisfiesEjrPlus m e w
    → FundsNoLess e v w → FallsShort m e v s c → ⊥
larger_stays_good m e w v s c fair more short = fair s c (record {
  not_empty = short.not_empty;
  unfunded = (short.unfunded.0, still-unfunded e w v c more short.unfunded.0 short.unfunded.1);
  group = short.group;
  enough = λ k d within. (
      let less : voters e * need m e c (got m e w (get_or s k d)) ≤ voters e * need m e c (got m e v (get_or s k d)) =
      mul-le-mul_left (voters e)
      (need-rises m e c _ _ (gets-more (worth_by m e) e w v (get_or s k d) more)) in
      let enough : voters e * need m e c (got m e v (get_or s k d)) ≤ length s * e.limit = short.enough k d within in
      omega arith);
})

pub lower_limit_stays_good : (m : Measure) (e : Instance) (w : List Bool) (l : ℕ) (s : List ℕ) (c : ℕ) → l ≤ e.limit
    → SatisfiesEjrPlus m e w → FallsShort m (with_limit e l) w s c → ⊥
lower_limit_stays_good ByCost e w l s c lower fair short = fair s c (record {
  not_empty = short.not_empty;
  unfunded = short.unfunded;
  group = short.group;
  enough = λ k d within. (
      let enough : voters e * need ByCost e c (got ByCost e w (get_or s k d)) ≤ length s * l =
      short.enough k d within in
      let more : length s * l ≤ length s * e.limit = mul-le-mul_left (length s) lower in
      omega arith);
})
lower_limit_stays_good ByCount e w l s c lower fair short = fair s c (record {
  not_empty = short.not_empty;
  unfunded = short.unfunded;
  group = short.group;
  enough = λ k d within. (
      let enough : voters e * need ByCount e c (got ByCount e w (get_or s k d)) ≤ length s * l =
      short.enough k d within in
      let more : length s * l ≤ length s * e.limit = mul-le-mul_left (length s) lower in
      omega arith);
})

-- each project costs k
abbrev CostEach : Instance → ℕ → Type 0
CostEach e k = (j : ℕ) → IsProject e j → cost_of e j ≡ k

-- where each project costs k, a voter got by cost k times what it got by counting
got-times : (e : Instance) (w : List Bool) (k i : ℕ) → CostEach e k → got ByCost e w i ≡ k * got ByCount e w i
got-times e w k i equal =
    sum-filter (cost_of e) (λ j. approves e i j && has w j) (all_projects e)
    ∙ range-same _ _ 1 (projects e) (λ j low high. term j (low, omega arith))
    ∙ sum-mul k (λ j. where_passes (approves e i j && has w j) 1) (all_projects e)
    ∙ ap (λ n. k * n) (sym (sum-filter (λ j. 1) (λ j. approves e i j && has w j) (all_projects e)))
  where
    term : (j : ℕ) → IsProject e j → where_passes (approves e i j && has w j) (cost_of e j)
        ≡ k * where_passes (approves e i j && has w j) 1
    term j project = elim (cases_Bool (approves e i j && has w j)) [
      | inl e' ↦ (let costs : cost_of e j ≡ k = equal j project in rw e' (omega arith))
      | inr e' ↦ rw e' (omega arith)
    ]

-- and it needs as much by cost as by counting
needs-same : (e : Instance) (w : List Bool) (k c i : ℕ) → CostEach e k → IsProject e c
    → need ByCost e c (got ByCost e w i) ≡ need ByCount e c (got ByCount e w i)
needs-same e w k c i equal project =
    let costs : cost_of e c ≡ k = equal c project in
    let times : cost_of e c * (got ByCount e w i + 1) ≡ k * (got ByCount e w i + 1) =
    ap (λ n. n * (got ByCount e w i + 1)) costs in
    omega (arith, got-times e w k i equal)

pub short_by_both : (e : Instance) (w : List Bool) (k : ℕ) (s : List ℕ) (c : ℕ) → CostEach e k
    → (FallsShort ByCost e w s c ↔ FallsShort ByCount e w s c)
short_by_both e w k s c equal = (
  λ short. record {
    not_empty = short.not_empty;
    unfunded = short.unfunded;
    group = short.group;
    enough = λ j d within. subst (λ n. voters e * n ≤ length s * e.limit)
        (needs-same e w k c (get_or s j d) equal short.unfunded.0) (short.enough j d within);
  },
  λ short. record {
    not_empty = short.not_empty;
    unfunded = short.unfunded;
    group = short.group;
    enough = λ j d within. subst (λ n. voters e * n ≤ length s * e.limit)
        (sym (needs-same e w k c (get_or s j d) equal short.unfunded.0)) (short.enough j d within);
  },
)

-- a voter's budget is at most its largest offer for each project that it got, and what it has left
budget-by-offers : (e : Instance) (w : List Bool) (p : Prices) (i : ℕ) → C1 e p → C4 e w p → IsVoter e i
    → beta p ≤ length (gets e w i) * most_ℕ e p i + left_ℕ e p i
budget-by-offers e w p i approved none_wasted v =
    let all : length (gets e w i) ≡ sum_by (others e w [] i) (all_projects e) = omega (arith, gets-parts e w [] i tt tt) in
    let spends : spent e p i ≤ top e p i * sum_by (others e w [] i) (all_projects e) =
    omega (arith, spent-parts e w p [] i approved none_wasted v tt) in
    let times : top e p i * length (gets e w i) ≡ top e p i * sum_by (others e w [] i) (all_projects e) =
    ap (λ n. top e p i * n) all in
    let offers : length (gets e w i) * top e p i ≤ length (gets e w i) * most_ℕ e p i =
    mul-le-mul_left (length (gets e w i)) (omega arith) in
    omega arith

-- A member that needs less than the group's budgets can offer more than an equal part of what the project costs. Here x is
-- that cost, g how many projects the member got, k how many members there are, b the budget, o the most that the member
-- can offer, and r what it has left.
offer-more : (x g k b o r : ℕ) → x * (g + 1) < k * b → b ≤ g * o + r → r ≤ o → x < k * o
offer-more x g k b o r rich budget left' =
    let all : k * b ≤ k * ((g + 1) * o) = mul-le-mul_left k (omega arith) in
    let both : x * (g + 1) < (k * o) * (g + 1) = omega arith in
    lt_of_mul-lt-mul_right (g + 1) both

offer-as-much : (x g k b o r : ℕ) → x * (g + 1) ≤ k * b → b ≤ g * o + r → r ≤ o → x ≤ k * o
offer-as-much x g k b o r rich budget left' =
    let all : k * b ≤ k * ((g + 1) * o) = mul-le-mul_left k (omega arith) in
    let both : x * (g + 1) ≤ (k * o) * (g + 1) = omega arith in
    le_of_mul-le-mul_right both (omega arith)

-- where it can offer no more than that, it has as much left
left-as-much : (x g k b o r : ℕ) → x * (g + 1) ≤ k * b → b ≤ g * o + r → k * o ≤ x → x ≤ k * r
left-as-much x g k b o r rich budget most =
    let all : k * b ≤ k * (g * o + r) = mul-le-mul_left k budget in
    let offers : g * (k * o) ≤ g * x = mul-le-mul_left g most in
    omega arith

-- terms that are each at least a number, and together at most as much, are each at most that number
each-tight : (f : ℕ → ℕ) (x : ℕ) (xs : List ℕ) → AllByRecursion (λ i. x ≤ f i) xs → sum_by f xs ≤ length xs * x
    → AllByRecursion (λ i. f i ≤ x) xs
each-tight f x [] each all = tt
each-tight f x (i ∷ is) each all =
    let here : x ≤ f i = each.0 in
    let rest : sum_by (λ j. x) is ≤ sum_by f is = sum-le (λ j. x) f is each.1 in
    let split : suc (length is) * x ≡ x + length is * x = omega (arith, mul_comm (suc (length is)) x, mul_comm (length is) x) in (
      omega (arith, sum-const x is, sum_by-cons f i is),
      each-tight f x is each.1 (omega (arith, sum_by-cons f i is)),
    )

-- what each member of a group that falls short by counting needs, in grains
need-in-grains : (e : Instance) (p : Prices) (c g k : ℕ) → 0 < voters e
    → voters e * (cost_of e c * (g + 1)) ≤ k * e.limit → BudgetsAreTheLimit e p → cost e p c * (g + 1) ≤ k * beta p
need-in-grains e p c g k some enough full =
    let equal : voters e * beta p ≡ e.limit * p.denominator = full in
    let grains : voters e * (cost_of e c * (g + 1)) * p.denominator ≤ k * e.limit * p.denominator =
    mul-le-mul_right p.denominator enough in
    let budgets : k * (voters e * beta p) ≡ k * (e.limit * p.denominator) = ap (λ n. k * n) equal in
    let all : voters e * (cost e p c * (g + 1)) ≤ voters e * (k * beta p) = omega arith in
    le_of_mul-le-mul_left all some

-- each member of a group is a voter
members : (e : Instance) (s : List ℕ) → IsGroup e s → AllByRecursion (IsVoter e) s
members e s group = set-all (IsVoter e) 1 (voters e) s group (λ i low high. (low, high))

-- by counting, who got so many projects got so much
counted : (e : Instance) (w : List Bool) (i : ℕ) → got ByCount e w i ≡ length (gets e w i)
counted e w i = sum-ones (gets e w i)

pub stable_has_ejr_plus : (e : Instance) (w : List Bool) (p : Prices) (s : List ℕ) (c : ℕ) → C1 e p → C4 e w p
    → S5 e w p → Cover e p → FallsShort ByCount e w s c → ⊥
stable_has_ejr_plus e w p s c approved none_wasted stable cover short =
    let some : 0 < length s = not-empty s short.not_empty in
    let each : AllByRecursion (λ i. cost e p c + 1 ≤ length s * most_ℕ e p i) s =
    all-both (IsVoter e) (λ i. voters e * need ByCount e c (got ByCount e w i) ≤ length s * e.limit)
    (λ i. cost e p c + 1 ≤ length s * most_ℕ e p i) s (λ i v enough. more some i v enough)
    (members e s short.group.0)
    (recursion_from_All (λ i. voters e * need ByCount e c (got ByCount e w i) ≤ length s * e.limit) s short.enough) in
    let all : sum_by (λ i. cost e p c + 1) s ≤ sum_by (λ i. length s * most_ℕ e p i) s = sum-le _ _ s each in
    let offers : length s * sum_by (most_ℕ e p) s ≤ length s * cost e p c =
    mul-le-mul_left (length s) (group-offers e w p s c stable short.unfunded short.group) in
    absurd (omega (arith, sum-const (cost e p c + 1) s, sum-mul (length s) (most_ℕ e p) s))
  where
    more : 0 < length s → (i : ℕ) → IsVoter e i
        → voters e * need ByCount e c (got ByCount e w i) ≤ length s * e.limit
        → cost e p c + 1 ≤ length s * most_ℕ e p i
    more some i v enough =
        let enough' : voters e * (cost_of e c * (length (gets e w i) + 1)) ≤ length s * e.limit =
        subst (λ g. voters e * (cost_of e c * (g + 1)) ≤ length s * e.limit) (counted e w i) enough in
        let rich : cost_of e c * (length (gets e w i) + 1) * p.denominator < length s * beta p =
        cohesive-rich (voters e) (cost_of e c * (length (gets e w i) + 1)) p.denominator (beta p) e.limit (length s) some
        enough' cover in
        let larger : cost e p c < length s * most_ℕ e p i =
        offer-more (cost e p c) (length (gets e w i)) (length s) (beta p) (most_ℕ e p i) (left_ℕ e p i) (omega arith)
        (budget-by-offers e w p i approved none_wasted v) (omega arith) in
        omega arith

-- the budgets of a group are enough for a project as often as a member got one, and once more
abbrev Rich : Instance → List Bool → Prices → List ℕ → ℕ → ℕ → Type 0
Rich e w p s c i = cost e p c * (length (gets e w i) + 1) ≤ length s * beta p

pub stable_has_ejr_plus_at_limit : (e : Instance) (w : List Bool) (p : Prices) (s : List ℕ) (c : ℕ)
    → 1 ≤ p.denominator → C1 e p → C2 e p → C3 e w p → C4 e w p → S5 e w p → Exhaustive e w → BudgetsAreTheLimit e p
    → FallsShort ByCount e w s c → ⊥
stable_has_ejr_plus_at_limit e w p s c low approved within paid_for none_wasted stable exhaustive full short =
    let rich : AllByRecursion (λ i. IsVoter e i × Rich e w p s c i) s =
    all-both (IsVoter e) (λ i. voters e * need ByCount e c (got ByCount e w i) ≤ length s * e.limit)
    (λ i. IsVoter e i × Rich e w p s c i) s (λ i v enough. (v, needs i enough)) (members e s short.group.0)
    (recursion_from_All (λ i. voters e * need ByCount e c (got ByCount e w i) ≤ length s * e.limit) s short.enough) in
    let offers : AllByRecursion (λ i. cost e p c ≤ length s * most_ℕ e p i) s =
    all-weaker (λ i. IsVoter e i × Rich e w p s c i) (λ i. cost e p c ≤ length s * most_ℕ e p i) s
    (λ i r. offer-as-much (cost e p c) (length (gets e w i)) (length s) (beta p) (most_ℕ e p i) (left_ℕ e p i) r.1
    (budget-by-offers e w p i approved none_wasted r.0) (omega arith)) rich in
    let limited : length s * sum_by (most_ℕ e p) s ≤ length s * cost e p c =
    mul-le-mul_left (length s) (group-offers e w p s c stable short.unfunded short.group) in
    let tight : AllByRecursion (λ i. length s * most_ℕ e p i ≤ cost e p c) s =
    each-tight (λ i. length s * most_ℕ e p i) (cost e p c) s offers
    (omega (arith, sum-mul (length s) (most_ℕ e p) s)) in
    let left_each : AllByRecursion (λ i. cost e p c ≤ length s * left_ℕ e p i) s =
    all-both (λ i. IsVoter e i × Rich e w p s c i) (λ i. length s * most_ℕ e p i ≤ cost e p c)
    (λ i. cost e p c ≤ length s * left_ℕ e p i) s
    (λ i r most. left-as-much (cost e p c) (length (gets e w i)) (length s) (beta p) (most_ℕ e p i) (left_ℕ e p i) r.1
    (budget-by-offers e w p i approved none_wasted r.0) most) rich tight in
    let left_all : sum_by (λ i. cost e p c) s ≤ sum_by (λ i. length s * left_ℕ e p i) s = sum-le _ _ s left_each in
    let times : length s * cost e p c ≤ length s * sum_by (left_ℕ e p) s =
    omega (arith, sum-const (cost e p c) s, sum-mul (length s) (left_ℕ e p) s) in
    let left_over : cost e p c ≤ sum_by (left_ℕ e p) s =
    le_of_mul-le-mul_left times (not-empty s short.not_empty) in
    let little : sum_by (left_ℕ e p) s < cost e p c =
    little-left e w p s c low within paid_for exhaustive full short.group.0 short.unfunded in
    absurd (omega arith)
  where
    needs : (i : ℕ) → voters e * need ByCount e c (got ByCount e w i) ≤ length s * e.limit → Rich e w p s c i
    needs i enough =
        need-in-grains e p c (length (gets e w i)) (length s) (some-voter e s short.group.0 short.not_empty)
        (subst (λ g. voters e * (cost_of e c * (g + 1)) ≤ length s * e.limit) (counted e w i) enough) full
