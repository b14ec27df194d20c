-- What groups can offer.
use Rattle.std.proofs.Common.{◌≡◌, ℕ, ◌+◌, ◌<◌, ◌≤◌, max, Bool, true, List, inl, inr, arith}
use Rattle.std.specs.Prelude.{pos, ◌≤ℤ◌, Contains, sum_by, int_lt}
use Rattle.std.proofs.lemmas.List.Elements.{All-contains, All-filter, All-from_recursion, filter_passes, recursion_from_All}
use Rattle.std.proofs.lemmas.Bool.{cases_Bool, cases_lt}
use Rattle.pb_records.proofs.Each.{all-every, all-weaker}
use Rattle.pb_election.specs.Instance.{Instance, IsVoter, all_projects, projects, supporters, voters}
use Rattle.pb_certificate.specs.Prices.{Prices}
use Rattle.pb_cohesion.specs.Amounts.{beta, cost, paid, pays, spent, top}
use Rattle.pb_cohesion.specs.Outcome.{IsUnfunded, unfunded}
use Rattle.pb_cohesion.specs.Conditions.{C4, S5, culprits_of_S5, most_of, sum_ℤ}
use Rattle.pb_cohesion.specs.Groups.{Blocks, IsGroupWithin, Offer}
use Rattle.pb_cohesion.proofs.Sums.{range-le, sum-le, sum-zero}
use Rattle.pb_cohesion.proofs.Sets.{largest-at, largest-reached, set-all, term-le}
use Rattle.pb_cohesion.proofs.Amounts.{le-pos, lt-pos, max-is, pos-le, sum_ℤ-is}
use Rattle.pb_cohesion.proofs.Plain.{group-le, left_ℕ, supporters-group, unfunded-all}

-- the most that a voter can offer, as a number
abbrev pub most_ℕ : Instance → Prices → ℕ → ℕ
most_ℕ e p i = max (top e p i) (left_ℕ e p i)

pub most-is : (e : Instance) (p : Prices) (s : List ℕ) → sum_ℤ (most_of e p) s ≡ pos (sum_by (most_ℕ e p) s)
most-is e p s = grind (arith, sum_ℤ-is, all-every, max-is)

-- an offer is at most that
pub offer-le : (e : Instance) (w : List Bool) (p : Prices) (i x : ℕ) → Offer e w p i x → x ≤ most_ℕ e p i
offer-le e w p i x (inl h) = grind arith
offer-le e w p i x (inr h) =
    let most : pays p i h.0 ≤ top e p i = largest-at (λ c. pays p i c) (projects e) 1 h.0 h.1.0.0 (omega arith) in
    omega arith

pub offer-limited : (e : Instance) (w : List Bool) (p : Prices) (i x : ℕ) → Offer e w p i x → pos x ≤ℤ most_of e p i
offer-limited e w p i x offer =
    rw (max-is (top e p i) (beta p) (spent e p i)) (le-pos x (most_ℕ e p i) (offer-le e w p i x offer))

-- what a group can offer is at most the cost
pub group-offers : (e : Instance) (w : List Bool) (p : Prices) (s : List ℕ) (c : ℕ) → S5 e w p → IsUnfunded e w c
    → IsGroupWithin e s c → sum_by (most_ℕ e p) s ≤ cost e p c
group-offers e w p s c stable unfunded group = grind (arith, pos-le, most-is, group-le)

pub none_blocks : (e : Instance) (w : List Bool) (p : Prices) (s : List ℕ) (c : ℕ) (x : ℕ → ℕ) → S5 e w p
    → Blocks e w p s c x → ⊥
none_blocks e w p s c x stable b =
    let most : sum_by (most_ℕ e p) s ≤ cost e p c = group-offers e w p s c stable b.unfunded b.group in
    let offered : sum_by x s ≤ sum_by (most_ℕ e p) s =
    sum-le x (most_ℕ e p) s
    (all-weaker (λ i. Offer e w p i (x i)) (λ i. x i ≤ most_ℕ e p i) s (λ i o. offer-le e w p i (x i) o)
    (recursion_from_All (λ i. Offer e w p i (x i)) s b.offers)) in
    omega arith

-- what a voter pays for a project is among what is paid for it
pub pays-le : (e : Instance) (p : Prices) (i c : ℕ) → IsVoter e i → pays p i c ≤ paid e p c
pays-le e p i c v = term-le (λ k. pays p k c) (voters e) 1 i v.0 (let high : i ≤ voters e = v.1 in omega arith)

-- a voter whose largest payment is 0 spends nothing
pub spends-none : (e : Instance) (p : Prices) (i : ℕ) → top e p i ≡ 0 → spent e p i ≡ 0
spends-none e p i none =
    let each : spent e p i ≤ sum_by (λ c. 0) (all_projects e) =
    range-le (λ c. pays p i c) (λ c. 0) 1 (projects e) nothing in
    omega (arith, sum-zero (all_projects e))
  where
    nothing : (c : ℕ) → 1 ≤ c → c < 1 + projects e → pays p i c ≤ 0
    nothing c low high = let most : pays p i c ≤ top e p i = largest-at (λ j. pays p i j) (projects e) 1 c low high in
        omega arith

-- the most that a voter can offer is an offer, also of a voter that is over the budget
pub most-offer : (e : Instance) (w : List Bool) (p : Prices) (i : ℕ) → C4 e w p → IsVoter e i
    → Offer e w p i (most_ℕ e p i)
most-offer e w p i none_wasted v = grind (arith, cases_lt, left_ℕ, largest-reached, spends-none, cases_Bool, pays-le)

-- where the supporters can offer more than the cost, they block
pub supporters_block : (e : Instance) (w : List Bool) (p : Prices) (c : ℕ) → C4 e w p → IsUnfunded e w c
    → cost e p c < sum_by (most_ℕ e p) (supporters e c) → Blocks e w p (supporters e c) c (most_ℕ e p)
supporters_block e w p c none_wasted unfunded more = record {
  unfunded = unfunded;
  group = supporters-group e c;
  offers = All-from_recursion (λ i. Offer e w p i (most_ℕ e p i)) (supporters e c)
      (set-all (λ i. Offer e w p i (most_ℕ e p i)) 1 (voters e) (supporters e c) (supporters-group e c).0
      (λ i low high. most-offer e w p i none_wasted (low, high)));
  more = more;
}

pub stable_from_none : (e : Instance) (w : List Bool) (p : Prices) → C4 e w p
    → ((s : List ℕ) (c : ℕ) (x : ℕ → ℕ) → Blocks e w p s c x → ⊥) → S5 e w p
stable_from_none e w p none_wasted none c unfunded = grind (arith, most-is, cases_lt, supporters_block, le-pos)

-- supporters who can offer more than an unfunded project costs block, and those of a culprit of the stable form do
pub block-there : (e : Instance) (w : List Bool) (p : Prices) (c : ℕ) → C4 e w p → IsUnfunded e w c
    → int_lt (pos (cost e p c)) (sum_ℤ (most_of e p) (supporters e c)) ≡ true
    → (x : ℕ → ℕ) × Blocks e w p (supporters e c) c x
block-there e w p c none_wasted unfunded_is more = grind (arith, supporters_block, lt-pos, most-is)

pub after_S5 : (e : Instance) (w : List Bool) (p : Prices) (c : ℕ) → C4 e w p → Contains (culprits_of_S5 e w p) c
    → (x : ℕ → ℕ) × Blocks e w p (supporters e c) c x
after_S5 e w p c none_wasted found =
    let test : ℕ → Bool = λ j. int_lt (pos (cost e p j)) (sum_ℤ (most_of e p) (supporters e j)) in
    let unfunded_is : IsUnfunded e w c =
    All-contains (IsUnfunded e w) (culprits_of_S5 e w p) c
    (All-filter test (IsUnfunded e w) (unfunded e w) (unfunded-all e w)) found in
    block-there e w p c none_wasted unfunded_is
    (All-contains (λ j. test j ≡ true) (culprits_of_S5 e w p) c (filter_passes test (unfunded e w)) found)
