-- How large the sums of a price system can be.
use Rattle.std.proofs.Common.{◌≡◌, ℕ, zero, suc, ◌+◌, ◌-◌, ◌*◌, ◌^◌, ◌<◌, ◌≤◌, max, Bool, List, [], ◌∷◌, length, get_or, refl, sym, ◌∙◌, ap, inl, inr, arith}
use Rattle.std.specs.Prelude.{◌==◌, pos, ◌+ℤ◌, ◌-ℤ◌, slice_index, sum_by}
use Rattle.std.specs.Int.{int_max}
use Rattle.std.specs.List.{AllByRecursion, range_with_len}
use Rattle.std.proofs.lemmas.Bool.{cases_Bool, cases_eq, eq-eqb, ne_eqb}
use Rattle.std.proofs.lemmas.Int.{ints}
use Rattle.std.proofs.lemmas.List.FromFn.{length-range_with_len}
use Rattle.std.proofs.lemmas.List.Sums.{sum_by-cons}
use Rattle.std.proofs.lemmas.Nat.{mul-le}
use Rattle.std.proofs.Math.Nat.{mul-le-mul_left}
use Rattle.pb_money.specs.Grains.{cost_grains, payment_grains}
use Rattle.pb_money.specs.Money.{most_money}
use Rattle.pb_election.specs.Instance.{Instance, IsProject, IsVoter, all_projects, all_voters, cost_of, projects, voters}
use Rattle.pb_election.specs.Outcome.{has}
use Rattle.pb_election.specs.Text.{IsElection}
use Rattle.pb_certificate.specs.Prices.{ArePrices, Prices, numerator_in, payments_of}
use Rattle.pb_certificate.proofs.OnPrices.Payments.{each-of}
use Rattle.pb_certificate.proofs.OnPrices.Canon.ReadBack.{voter-map}
use Rattle.pb_cohesion.specs.Amounts.{beta, budget_limit, cost, paid, pays, spent, top}
use Rattle.pb_cohesion.specs.Conditions.{sum_ℤ}
use Rattle.pb_cohesion.specs.Groups.{AreProjects, IsGroup}
use Rattle.pb_cohesion.specs.Outcome.{total}
use Rattle.pb_cohesion.proofs.Amounts.{max-is}
use Rattle.pb_cohesion.proofs.Loops.{set-length}
use Rattle.pb_cohesion.proofs.Sets.{set-all, set-le-range, term-le}
use Rattle.pb_cohesion.proofs.Stable.{most-is, most_ℕ}
use Rattle.pb_cohesion.proofs.Sums.{part-le, range-le, range-same, sum-add, sum-const, sum-exchange, sum-le, sum-mul, sum-zero, where_passes}
use Rattle.pb_price.specs.Ranges.{AllSumsFit, IsInRange, IsInRangeℕ}
use Rattle.pb_price.proofs.Sums.{largest-most}

-- one number of a range counts once
none-passes : (x m a n : ℕ) → x < a → sum_by (λ j. where_passes (x == j) m) (range_with_len a n) ≡ 0
none-passes x m a n h =
    range-same (λ j. where_passes (x == j) m) (λ j. 0) a n
    (λ j low high. ap (λ b. where_passes b m) (ne_eqb x j (λ e. omega arith))) ∙ sum-zero (range_with_len a n)

one-passes : (x m a n : ℕ) → sum_by (λ j. where_passes (x == j) m) (range_with_len a n) ≤ m
one-passes x m a zero = omega arith
one-passes x m a (suc n) = elim (cases_eq x a) [
  | inl e ↦
      let here : where_passes (x == a) m ≡ m = ap (λ b. where_passes b m) (eq-eqb x a e) in
      let rest : sum_by (λ j. where_passes (x == j) m) (range_with_len (a + 1) n) ≡ 0 =
      none-passes x m (a + 1) n (omega arith) in
      omega (arith, sum_by-cons (λ j. where_passes (x == j) m) a (range_with_len (a + 1) n))
  | inr ne ↦
      let here : where_passes (x == a) m ≡ 0 = ap (λ b. where_passes b m) (ne_eqb x a ne) in
      let rest : sum_by (λ j. where_passes (x == j) m) (range_with_len (a + 1) n) ≤ m = one-passes x m (a + 1) n in
      omega (arith, sum_by-cons (λ j. where_passes (x == j) m) a (range_with_len (a + 1) n))
]

-- what a list of payments comes to
numerator-le : (q : ℕ × ℕ) (qs : List (ℕ × ℕ)) (j : ℕ)
    → numerator_in (q ∷ qs) j ≤ where_passes (q.0 == j) q.1 + numerator_in qs j
numerator-le q qs j = elim (cases_Bool (q.0 == j)) [ inl e ↦ rw e (omega arith) | inr e ↦ rw e (omega arith) ]

numerators-most : (qs : List (ℕ × ℕ)) (a n : ℕ) → AllByRecursion (λ q. q.1 ≤ 10 ^ 21) qs
    → sum_by (numerator_in qs) (range_with_len a n) ≤ 10 ^ 21 * length qs
numerators-most [] a n h = let none : sum_by (numerator_in []) (range_with_len a n) ≡ 0 =
    sum-zero (range_with_len a n) in omega arith
numerators-most (q ∷ qs) a n h =
    let each : sum_by (numerator_in (q ∷ qs)) (range_with_len a n)
    ≤ sum_by (λ j. where_passes (q.0 == j) q.1 + numerator_in qs j) (range_with_len a n) =
    range-le (numerator_in (q ∷ qs)) (λ j. where_passes (q.0 == j) q.1 + numerator_in qs j) a n
    (λ j low high. numerator-le q qs j) in
    let parts : sum_by (λ j. where_passes (q.0 == j) q.1 + numerator_in qs j) (range_with_len a n)
    ≡ sum_by (λ j. where_passes (q.0 == j) q.1) (range_with_len a n)
    + sum_by (numerator_in qs) (range_with_len a n) =
    sum-add (λ j. where_passes (q.0 == j) q.1) (numerator_in qs) (range_with_len a n) in
    let first : sum_by (λ j. where_passes (q.0 == j) q.1) (range_with_len a n) ≤ q.1 = one-passes q.0 q.1 a n in
    let rest : sum_by (numerator_in qs) (range_with_len a n) ≤ 10 ^ 21 * length qs = numerators-most qs a n h.1 in
    omega arith

grains-sum : (f : ℕ → ℕ) (xs : List ℕ) → sum_by (λ j. payment_grains (f j)) xs ≡ 10 ^ 6 * sum_by f xs
grains-sum f [] = refl
grains-sum f (x ∷ xs) = omega (arith, grains-sum f xs, sum_by-cons f x xs, sum_by-cons (λ j. payment_grains (f j)) x xs)

spent-most : (e : Instance) (p : Prices) (i : ℕ) → ArePrices e p → IsVoter e i
    → spent e p i ≤ 10 ^ 27 * length (payments_of p i)
spent-most e p i a v =
    let most : sum_by (numerator_in (payments_of p i)) (all_projects e) ≤ 10 ^ 21 * length (payments_of p i) =
    numerators-most (payments_of p i) 1 (projects e)
    (each-of (λ q. q.1 ≤ 10 ^ 21) (payments_of p i) (voter-map e p i a v.0 v.1).none_large) in
    let is : spent e p i ≡ 10 ^ 6 * sum_by (numerator_in (payments_of p i)) (all_projects e) =
    grains-sum (numerator_in (payments_of p i)) (all_projects e) in
    omega arith

-- the lengths of all lists
lengths : (ps : List (List (ℕ × ℕ))) (a : ℕ)
    → sum_by (λ i. length (get_or ps (i - a) [])) (range_with_len a (length ps)) ≡ sum_by length ps
lengths [] a = refl
lengths (q ∷ qs) a =
    let here : a - a ≡ 0 = omega arith in
    let first : length (get_or (q ∷ qs) (a - a) []) ≡ length q = ap (λ k. length (get_or (q ∷ qs) k [])) here in
    let same : sum_by (λ i. length (get_or (q ∷ qs) (i - a) [])) (range_with_len (a + 1) (length qs))
    ≡ sum_by (λ i. length (get_or qs (i - (a + 1)) [])) (range_with_len (a + 1) (length qs)) =
    range-same (λ i. length (get_or (q ∷ qs) (i - a) [])) (λ i. length (get_or qs (i - (a + 1)) [])) (a + 1) (length qs)
    (λ i low high. let next : i - a
    ≡ suc (i - (a + 1)) = omega arith in ap (λ k. length (get_or (q ∷ qs) k [])) next) in
    omega (
      arith,
      lengths qs (a + 1),
      sum_by-cons (λ i. length (get_or (q ∷ qs) (i - a) [])) a (range_with_len (a + 1) (length qs)),
      sum_by-cons (λ (xs : List (ℕ × ℕ)). length xs) q qs,
    )

-- all payments
pub all-payments : (e : Instance) (p : Prices) → ArePrices e p → sum_by (spent e p) (all_voters e) ≤ 10 ^ 34
all-payments e p a =
    let many : length p.payments ≡ voters e = a.fits.each_voter in
    let each : sum_by (spent e p) (all_voters e) ≤ sum_by (λ i. 10 ^ 27 * length (payments_of p i)) (all_voters e) =
    range-le (spent e p) (λ i. 10 ^ 27 * length (payments_of p i)) 1 (voters e)
    (λ i low high. spent-most e p i a (low, omega arith)) in
    let is : sum_by (λ i. 10 ^ 27 * length (payments_of p i)) (all_voters e)
    ≡ 10 ^ 27 * sum_by (λ i. length (payments_of p i)) (all_voters e) =
    sum-mul (10 ^ 27) (λ i. length (payments_of p i)) (all_voters e) in
    let rows : sum_by (λ i. length (payments_of p i)) (all_voters e) ≡ sum_by length p.payments =
    ap (λ n. sum_by (λ i. length (payments_of p i)) (range_with_len 1 n)) (sym many) ∙ lengths p.payments 1 in
    omega arith

-- those of a group for a set of projects
group-spent : (e : Instance) (p : Prices) (s : List ℕ) → ArePrices e p → IsGroup e s → sum_by (spent e p) s ≤ 10 ^ 34
group-spent e p s a group = omega (arith, set-le-range (spent e p) (voters e) s group, all-payments e p a)

group-payments : (e : Instance) (p : Prices) (s t : List ℕ) → ArePrices e p → IsGroup e s → AreProjects e t
    → sum_by (λ i. sum_by (λ c. pays p i c) t) s ≤ 10 ^ 34
group-payments e p s t a group set =
    let part : sum_by (λ i. sum_by (λ c. pays p i c) t) s ≤ sum_by (spent e p) s =
    sum-le (λ i. sum_by (λ c. pays p i c) t) (spent e p) s
    (set-all (λ i. sum_by (λ c. pays p i c) t ≤ spent e p i) 1 (voters e) s group
    (λ i low high. set-le-range (λ c. pays p i c) (projects e) t set)) in
    omega (arith, group-spent e p s a group)

voter-spent : (e : Instance) (p : Prices) (i : ℕ) → ArePrices e p → IsVoter e i → spent e p i ≤ 10 ^ 34
voter-spent e p i a v =
    omega
    (arith, term-le (spent e p) (voters e) 1 i v.0 (let high : i ≤ voters e = v.1 in omega arith), all-payments e p a)

project-paid : (e : Instance) (p : Prices) (c : ℕ) → ArePrices e p → IsProject e c → paid e p c ≤ 10 ^ 34
project-paid e p c a ip =
    let part : paid e p c ≤ sum_by (paid e p) (all_projects e) =
    term-le (paid e p) (projects e) 1 c ip.0 (let high : c ≤ projects e = ip.1 in omega arith) in
    let both : sum_by (spent e p) (all_voters e) ≡ sum_by (paid e p) (all_projects e) =
    sum-exchange (pays p) (all_voters e) (all_projects e) in
    omega (arith, all-payments e p a)

-- one payment
payment-small : (qs : List (ℕ × ℕ)) (j : ℕ) → AllByRecursion (λ q. q.1 ≤ 10 ^ 21) qs → numerator_in qs j ≤ 10 ^ 21
payment-small [] j h = omega arith
payment-small (q ∷ qs) j h = elim (cases_Bool (q.0 == j)) [ inl e ↦ rw e h.0 | inr e ↦ rw e (payment-small qs j h.1) ]

top-small : (e : Instance) (p : Prices) (i : ℕ) → ArePrices e p → IsVoter e i → top e p i ≤ 10 ^ 27
top-small e p i a v = grind (arith, largest-most, payment-small, each-of, voter-map)

-- costs
pub grains-most : (m d : ℕ) → m ≤ 10 ^ 18 → d ≤ 10 ^ 9 → cost_grains m d ≤ 10 ^ 27
grains-most m d h k = let most : m * d ≤ 10 ^ 18 * 10 ^ 9 = mul-le m d (10 ^ 18) (10 ^ 9) h k in omega arith

cost-at : (cs : List ℕ) (k : ℕ) → AllByRecursion (λ c. c ≤ most_money) cs → k < length cs → slice_index cs k ≤ 10 ^ 18
cost-at [] k h w = absurd (omega arith)
cost-at (c ∷ cs) zero h w = h.0
cost-at (c ∷ cs) (suc k) h w = cost-at cs k h.1 (omega arith)

pub cost_of-most : (e : Instance) (c : ℕ) → IsElection e → IsProject e c → cost_of e c ≤ 10 ^ 18
cost_of-most e c h ip = grind (arith, cost-at)

cost-most : (e : Instance) (p : Prices) (c : ℕ) → IsElection e → ArePrices e p → IsProject e c → cost e p c ≤ 10 ^ 27
cost-most e p c h a ip = grains-most (cost_of e c) p.denominator (cost_of-most e c h ip) a.system.denominator.1

pub total-most : (e : Instance) (w : List Bool) → IsElection e → total e w ≤ 20000 * 10 ^ 18
total-most e w h =
    let part : total e w ≤ sum_by (cost_of e) (all_projects e) = part-le (cost_of e) (has w) (all_projects e) in
    let each : sum_by (cost_of e) (all_projects e) ≤ sum_by (λ c. 10 ^ 18) (all_projects e) =
    range-le (cost_of e) (λ c. 10 ^ 18) 1 (projects e) (λ c low high. cost_of-most e c h (low, omega arith)) in
    let is : sum_by (λ c. 10 ^ 18) (all_projects e) ≡ projects e * 10 ^ 18 =
    sum-const (10 ^ 18) (all_projects e) ∙ ap (λ n. n * 10 ^ 18) (length-range_with_len 1 (projects e)) in
    omega (arith, h.few_projects)

costs-most : (e : Instance) (p : Prices) (t : List ℕ) → IsElection e → ArePrices e p → AreProjects e t
    → sum_by (cost e p) t ≤ 20000 * 10 ^ 27
costs-most e p t h a set =
    let part : sum_by (cost e p) t ≤ sum_by (cost e p) (all_projects e) = set-le-range (cost e p) (projects e) t set in
    let each : sum_by (cost e p) (all_projects e) ≤ sum_by (λ c. 10 ^ 27) (all_projects e) =
    range-le (cost e p) (λ c. 10 ^ 27) 1 (projects e) (λ c low high. cost-most e p c h a (low, omega arith)) in
    let is : sum_by (λ c. 10 ^ 27) (all_projects e) ≡ projects e * 10 ^ 27 =
    sum-const (10 ^ 27) (all_projects e) ∙ ap (λ n. n * 10 ^ 27) (length-range_with_len 1 (projects e)) in
    omega (arith, h.few_projects)

-- budgets
beta-most : (e : Instance) (p : Prices) → ArePrices e p → beta p ≤ 10 ^ 27
beta-most e p a = omega (arith, a.system.budget)

group-small : (e : Instance) (s : List ℕ) → IsElection e → IsGroup e s → length s ≤ 1000000
group-small e s h group = omega (arith, set-length 1 (voters e) s group, h.few_voters)

product : (k b : ℕ) → k ≤ 1000000 → b ≤ 10 ^ 27 → k * b ≤ 10 ^ 33
product k b h l = let most : k * b ≤ k * 10 ^ 27 = mul-le-mul_left k l in omega arith

budgets-most : (e : Instance) (p : Prices) (s : List ℕ) → IsElection e → ArePrices e p → IsGroup e s
    → length s * beta p ≤ 10 ^ 33
budgets-most e p s h a group = product (length s) (beta p) (group-small e s h group) (beta-most e p a)

-- what a group has left
left-sum : (b : ℕ) (f : ℕ → ℕ) (s : List ℕ)
    → sum_ℤ (λ i. pos b -ℤ pos (f i)) s ≡ pos (sum_by (λ i. b) s) -ℤ pos (sum_by f s)
left-sum b f [] = refl
left-sum b f (x ∷ xs) =
    rw (left-sum b f xs, sum_by-cons (λ i. b) x xs, sum_by-cons f x xs)
    (turn b (f x) (sum_by (λ i. b) xs) (sum_by f xs))
  where
    turn : (b x s t : ℕ) → (pos b -ℤ pos x) +ℤ (pos s -ℤ pos t) ≡ pos (b + s) -ℤ pos (x + t)
    turn b x s t = omega (arith, ints)

-- what a group can offer: its payments, or what it has left of its budgets
most-small : (e : Instance) (p : Prices) (i : ℕ) → ArePrices e p → IsVoter e i → most_ℕ e p i ≤ 10 ^ 27
most-small e p i a v = omega (arith, top-small e p i a v, beta-most e p a)

group-offered : (e : Instance) (p : Prices) (s : List ℕ) → IsElection e → ArePrices e p → IsGroup e s
    → sum_by (most_ℕ e p) s ≤ 10 ^ 33
group-offered e p s h a group =
    let each : sum_by (most_ℕ e p) s ≤ sum_by (λ i. 10 ^ 27) s =
    sum-le (most_ℕ e p) (λ i. 10 ^ 27) s
    (set-all (λ i. most_ℕ e p i ≤ 10 ^ 27) 1 (voters e) s group (λ i low high. most-small e p i a (low, high))) in
    let is : sum_by (λ i. 10 ^ 27) s ≡ length s * 10 ^ 27 = sum-const (10 ^ 27) s in
    omega (arith, group-small e s h group)

-- what is in the range
number : (n : ℕ) → n ≤ 10 ^ 34 → IsInRangeℕ n
number n h = (omega (arith, ints), omega (arith, ints))

difference : (b s : ℕ) → b ≤ 10 ^ 34 → s ≤ 10 ^ 34 → IsInRange (pos b -ℤ pos s)
difference b s h k = (omega (arith, ints), omega (arith, ints))

larger : (t b s : ℕ) → t ≤ 10 ^ 34 → b ≤ 10 ^ 34 → IsInRange (int_max (pos t) (pos b -ℤ pos s))
larger t b s h k = rw (max-is t b s) (number (max t (b - s)) (omega arith))

pub all-sums-fit : (e : Instance) (w : List Bool) (p : Prices) → IsElection e → ArePrices e p → AllSumsFit e w p
all-sums-fit e w p h a = record {
  outcome = number (total e w) (omega (arith, total-most e w h));
  one_more = λ c ip. number (total e w + cost_of e c) (omega (arith, total-most e w h, cost_of-most e c h ip));
  limit = number (budget_limit e p) (omega (arith, grains-most e.limit p.denominator h.limit a.system.denominator.1));
  budgets = λ s group. number (length s * beta p) (omega (arith, budgets-most e p s h a group));
  spent_by_voter = λ i v. number (spent e p i) (voter-spent e p i a v);
  paid_for_project = λ c ip. number (paid e p c) (project-paid e p c a ip);
  cost_of_project = λ c ip. number (cost e p c) (omega (arith, cost-most e p c h a ip));
  costs = λ t set. number (sum_by (cost e p) t) (omega (arith, costs-most e p t h a set));
  payments = λ s t group set. number (sum_by (λ i. sum_by (λ c. pays p i c) t) s) (group-payments e p s t a group set);
  left_of_voter = λ i v. difference (beta p) (spent e p i) (omega (arith, beta-most e p a)) (voter-spent e p i a v);
  left_of_group =
      λ s group. rw (left-sum (beta p) (spent e p) s, sum-const (beta p) s)
      (difference (length s * beta p) (sum_by (spent e p) s) (omega (arith, budgets-most e p s h a group))
      (group-spent e p s a group));
  largest_of_voter = λ i v. number (top e p i) (omega (arith, top-small e p i a v));
  most_of_voter =
      λ i v. larger (top e p i) (beta p) (spent e p i) (omega (arith, top-small e p i a v))
      (omega (arith, beta-most e p a));
  most_of_group =
      λ s group. rw (most-is e p s) (number (sum_by (most_ℕ e p) s) (omega (arith, group-offered e p s h a group)));
}
