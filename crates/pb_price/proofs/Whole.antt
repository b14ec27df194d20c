-- A tally of all payments of a price system.
use Rattle.std.proofs.Common.{◌≡◌, ℕ, ◌+◌, ◌-◌, ◌*◌, ◌≤◌, true, false, [], length, sym, ◌∙◌, ap, subst, arith}
use Rattle.std.specs.Prelude.{Option, Some, None, pos, ◌-ℤ◌, ◌&&◌, filter, flat_map, nat_lt, not, slice_get}
use Rattle.std.specs.List.{range_with_len}
use Rattle.std.proofs.lemmas.List.{get_or_past, take_all}
use Rattle.pb_records.proofs.Lists.{filter-same, filter-none}
use Rattle.pb_election.specs.Instance.{Instance, IsProject, IsVoter, all_projects, all_voters, approves, projects, supporters, voters}
use Rattle.pb_certificate.specs.Prices.{Prices, payment}
use Rattle.pb_cohesion.specs.Amounts.{beta, left, spent}
use Rattle.pb_cohesion.specs.Conditions.{culprits_of_C1, culprits_of_C2, most_of, sum_ℤ}
use Rattle.pb_cohesion.proofs.Culprits.{nil-flat_map, nil-map, wrong}
use Rattle.pb_cohesion.proofs.Firsts.{first-mapped}
use Rattle.pb_cohesion.proofs.Loops.{range-first, range-lists-first}
use Rattle.pb_cohesion.proofs.Sums.{range-same}
use Rattle.pb_price.specs.Answers.{AreStepsOf}
use Rattle.pb_price.specs.Inside.Tallies.{AreTallied, IsFirstPair, IsTallyOf, Taken, first_supporters, left_by, most_by, paid_by, pays_wrongly, spent_by, top_by}
use Rattle.pb_price.specs.declared.PaymentFinding.{PaymentFinding}
use Rattle.pb_price.specs.declared.tally.Tally.{Tally}
use Rattle.pb_price.specs.Inside.Noted.{IsFindingTo}
use Rattle.pb_price.proofs.Counting.{count-culprits, wrong_pairs}
use Rattle.pb_price.proofs.Closest.{each-passes, found-as}
use Rattle.pb_price.proofs.Signed.{signed-same}
use Rattle.pb_price.proofs.Sums.{largest-same}

-- two accounts of what each voter pays for each project
pub record Agree (e : Instance) (f g : ℕ → ℕ → ℕ) : Type 0 where
  pub pays : (i c : ℕ) → IsVoter e i → IsProject e c → f i c ≡ g i c

paid-agree : (e : Instance) (f g : ℕ → ℕ → ℕ) (c : ℕ) → Agree e f g → IsProject e c → paid_by e f c ≡ paid_by e g c
paid-agree e f g c h ip = grind (arith, range-same)

spent-agree : (e : Instance) (f g : ℕ → ℕ → ℕ) (i : ℕ) → Agree e f g → IsVoter e i → spent_by e f i ≡ spent_by e g i
spent-agree e f g i h iv = grind (arith, range-same)

top-agree : (e : Instance) (f g : ℕ → ℕ → ℕ) (i : ℕ) → Agree e f g → IsVoter e i → top_by e f i ≡ top_by e g i
top-agree e f g i h iv = grind (arith, largest-same)

left-agree : (b : ℕ) (e : Instance) (f g : ℕ → ℕ → ℕ) (i : ℕ) → Agree e f g → IsVoter e i
    → left_by b e f i ≡ left_by b e g i
left-agree b e f g i h iv = ap (λ s. pos b -ℤ pos s) (spent-agree e f g i h iv)

most-agree : (b : ℕ) (e : Instance) (f g : ℕ → ℕ → ℕ) (i : ℕ) → Agree e f g → IsVoter e i
    → most_by b e f i ≡ most_by b e g i
most-agree b e f g i h iv = grind (arith, top-agree, left-agree)

-- the first payment for a project that is not approved
wrong-agree : (e : Instance) (f : ℕ → ℕ → ℕ) (p : Prices) (i c : ℕ) → Agree e f (payment p) → IsVoter e i
    → IsProject e c → wrong e p i c ≡ pays_wrongly e f i c
wrong-agree e f p i c h iv ip = ap (λ n. nat_lt 0 n && not (approves e i c)) (sym (h.pays i c iv ip))

none-wrong : (e : Instance) (f : ℕ → ℕ → ℕ) (p : Prices) (i : ℕ) → Agree e f (payment p) → IsVoter e i
    → ((c : ℕ) → pays_wrongly e f i c ≡ false) → wrong_pairs e p i ≡ []
none-wrong e f p i h iv none = grind (arith, nil-map, filter-none, wrong-agree)

first-wrong : (e : Instance) (f : ℕ → ℕ → ℕ) (p : Prices) (o : Option (ℕ × ℕ)) → Agree e f (payment p)
    → IsFirstPair e (pays_wrongly e f) o → o ≡ slice_get (culprits_of_C1 e p) 0
first-wrong e f p None h first = grind (arith, nil-flat_map, wrong_pairs, none-wrong)
first-wrong e f p (Some q) h first =
    let low : 1 ≤ q.0 = first.0.0 in
    let high : q.0 ≤ voters e = first.0.1 in
    let before : flat_map (wrong_pairs e p) (range_with_len 1 (q.0 - 1)) ≡ [] =
    nil-flat_map (wrong_pairs e p) (q.0 - 1) 1
    (λ i l u. none-wrong e f p i h (l, omega arith) (λ c. first.3 i c (omega arith))) in
    let low' : 1 ≤ q.1 = first.1.0 in
    let high' : q.1 ≤ projects e = first.1.1 in
    let before' : filter (wrong e p q.0) (range_with_len 1 (q.1 - 1)) ≡ [] =
    filter-none (wrong e p q.0) (q.1 - 1) 1
    (λ c l u. (wrong-agree e f p q.0 c h first.0 (l, omega arith) ∙ first.4 c (omega arith))) in
    let here : slice_get (filter (wrong e p q.0) (all_projects e)) 0 ≡ Some q.1 =
    range-first (wrong e p q.0) (projects e) q.1 before' low' high'
    (wrong-agree e f p q.0 q.1 h first.0 first.1 ∙ first.2) in
    sym (range-lists-first (wrong_pairs e p) (voters e) q.0 (q.0, q.1) before low high
    (first-mapped (λ c. (q.0, c)) (filter (wrong e p q.0) (all_projects e)) q.1 here))

abbrev wrongly : Option (ℕ × ℕ) → ℕ → PaymentFinding
wrongly first count = record { first = first; count = count }

pub whole : {opened : ℕ} (e : Instance) (a : Taken) (t : Tally) (p : Prices) → AreTallied e a opened t → t.closed ≡ voters e
    → a.budget ≡ beta p → Agree e a.pays (payment p) → IsTallyOf e p t
whole e a t p h all budget agree = record {
  budget = h.budget ∙ budget;
  sums = record {
    as_many = h.sums.as_many;
    paid = λ k d w. (h.sums.paid k d w ∙ paid-agree e a.pays (payment p) (k + 1) agree (omega arith, omega arith));
    left = λ k d w. (
        h.sums.left k d w ∙ ap (λ n. sum_ℤ (left_by a.budget e a.pays) (first_supporters e n (k + 1))) all
        ∙ ap (λ b. sum_ℤ (left_by b e a.pays) (supporters e (k + 1))) budget
        ∙ signed-same (left_by (beta p) e a.pays) (left e p) (λ i. approves e i (k + 1)) 1 (voters e)
        (λ i low high. left-agree (beta p) e a.pays (payment p) i agree (low, omega arith)));
    offer = λ k d w. (
        h.sums.offer k d w ∙ ap (λ n. sum_ℤ (most_by a.budget e a.pays) (first_supporters e n (k + 1))) all
        ∙ ap (λ b. sum_ℤ (most_by b e a.pays) (supporters e (k + 1))) budget
        ∙ signed-same (most_by (beta p) e a.pays) (most_of e p) (λ i. approves e i (k + 1)) 1 (voters e)
        (λ i low high. most-agree (beta p) e a.pays (payment p) i agree (low, omega arith)));
    count = λ k d w. (h.sums.count k d w ∙ ap (λ n. length (first_supporters e n (k + 1))) all);
  };
  unapproved = ap (λ o. wrongly o t.unapproved.count) (first-wrong e a.pays p t.unapproved.first agree h.unapproved.first)
      ∙ ap (wrongly (slice_get (culprits_of_C1 e p) 0)) (h.unapproved.count ∙ count-culprits e a.pays p agree.pays);
  over_budget =
      found-as (voters e) (λ i. nat_lt a.budget (spent_by e a.pays i)) (λ i. true) (culprits_of_C2 e p) (all_voters e)
      (λ i. a.budget) (λ i. beta p) (λ i. pos (spent_by e a.pays i)) (λ i. pos (spent e p i)) t.over_budget
      (subst
      (λ n. IsFindingTo n (λ i. nat_lt a.budget (spent_by e a.pays i)) (λ i. true) (λ i. a.budget)
      (λ i. pos (spent_by e a.pays i)) t.over_budget) all h.over_budget)
      (ap (λ b. filter (λ i. nat_lt b (spent_by e a.pays i)) (all_voters e)) budget
      ∙ filter-same (λ i. nat_lt (beta p) (spent_by e a.pays i)) (λ i. nat_lt (beta p) (spent e p i)) (voters e) 1
      (λ i low high. ap (nat_lt (beta p)) (spent-agree e a.pays (payment p) i agree (low, omega arith))))
      (record {
        bounds = λ i low high. budget;
        amounts = λ i low high. ap pos (spent-agree e a.pays (payment p) i agree (low, high));
      })
      (each-passes (voters e) 1);
}

-- the steps of a whole tally, and those of the passes over the projects
pub whole-steps : {opened : ℕ} (e : Instance) (a : Taken) (t : Tally) (rows : ℕ) → AreTallied e a opened t → t.closed ≡ voters e
    → a.rows ≡ rows → AreStepsOf e rows (t.steps + 2 * projects e)
whole-steps e a t rows h all count = grind (arith, take_all, get_or_past)
