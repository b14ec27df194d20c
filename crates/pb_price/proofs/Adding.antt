-- A tally with one more row.
use Rattle.std.proofs.Common.{◌≡◌, ℕ, ◌+◌, ◌-◌, ◌^◌, ◌<◌, ◌≤◌, max, Bool, true, cond, List, length, get_or, set, refl, sym, ◌∙◌, ap, subst, arith}
use Rattle.std.specs.Prelude.{pos, Option, ◌&&◌, ◌==◌, filter, nat_lt, not}
use Rattle.std.specs.List.{range_with_len}
use Rattle.std.proofs.lemmas.List.{get_or_default, length-set}
use Rattle.pb_money.specs.Grains.{payment_grains}
use Rattle.pb_records.proofs.Lists.{filter-same}
use Rattle.pb_election.specs.Instance.{Instance, IsProject, IsVoter, approves, projects}
use Rattle.pb_certificate.specs.declared.prices.row.PriceRow.{PriceRow}
use Rattle.pb_cohesion.specs.Conditions.{sum_ℤ}
use Rattle.pb_price.specs.Inside.Tallies.{AreSteps, AreSumsOf, AreTaken, AreTallied, IsAtHand, IsFirstPair, Taken, TakesRow, first_pair, first_supporters, left_by, most_by, paid_by, pays_wrongly, spent_by}
use Rattle.pb_price.specs.declared.at_hand.AtHand.{AtHand}
use Rattle.pb_price.specs.declared.tally.ProjectSums.{ProjectSums}
use Rattle.pb_price.specs.declared.tally.Tally.{Tally}
use Rattle.pb_price.proofs.Amounts.{lefts-same, offers-same, paid-here, paid-other, spent-here, spent-same, top-here}
use Rattle.pb_price.proofs.Ballots.{written}
use Rattle.pb_price.specs.Inside.Noted.{IsFindingTo}
use Rattle.pb_price.specs.declared.Finding.{Finding}
use Rattle.pb_price.proofs.Counting.{count-added, count-few}
use Rattle.pb_price.proofs.SameSums.{finding-as}

-- what the closed voters have left and can offer is the same
lefts-then : (e : Instance) (a b : Taken) (q : PriceRow) (closed c : ℕ) → TakesRow a b q → closed < q.voter
    → sum_ℤ (left_by a.budget e a.pays) (first_supporters e closed c)
    ≡ sum_ℤ (left_by b.budget e b.pays) (first_supporters e closed c)
lefts-then e a b q closed c r low = grind (arith, lefts-same)

offers-then : (e : Instance) (a b : Taken) (q : PriceRow) (closed c : ℕ) → TakesRow a b q → closed < q.voter
    → sum_ℤ (most_by a.budget e a.pays) (first_supporters e closed c)
    ≡ sum_ℤ (most_by b.budget e b.pays) (first_supporters e closed c)
offers-then e a b q closed c r low = grind (arith, offers-same)

-- the sums with one more payment
abbrev pub with_payment : ℕ → ProjectSums → ProjectSums
with_payment grains s = record s { paid = s.paid + grains }

-- the sums that were read at a place
there : (xs : List ProjectSums) (i p : ℕ) (v d : ProjectSums) → v ≡ get_or xs i v → p < length xs → p ≡ i
    → v ≡ get_or xs p d
there xs i p v d is within e = is ∙ ap (λ k. get_or xs k v) (sym e) ∙ get_or_default xs p v d within

pub sums-added : (e : Instance) (a b : Taken) (closed opened : ℕ) (xs : List ProjectSums) (q : PriceRow)
    (v : ProjectSums) → AreSumsOf e a closed opened xs → TakesRow a b q → IsVoter e q.voter → IsProject e q.project
    → closed < q.voter → v ≡ get_or xs (q.project - 1) v
    → AreSumsOf e b closed opened (set xs (q.project - 1) (with_payment (payment_grains q.payment) v))
sums-added e a b closed opened xs q v h r iv ip low is =
    let u : ProjectSums = with_payment (payment_grains q.payment) v in
    record {
      as_many = length-set xs (q.project - 1) u ∙ h.as_many;
      paid = λ k d w. written xs (q.project - 1) k u d (λ x. x.paid ≡ paid_by e b.pays (k + 1)) (rw h.as_many w)
          (λ k_is.
          let same : k + 1 ≡ q.project = omega arith in
          ap (λ x. x.paid + payment_grains q.payment) (there xs (q.project - 1) k v d is (rw h.as_many w) k_is)
          ∙ ap (λ n. n + payment_grains q.payment) (h.paid k d w ∙ ap (paid_by e a.pays) same)
          ∙ sym (paid-here e a b q r iv) ∙ ap (paid_by e b.pays) (sym same))
          (λ ne. h.paid k d w ∙ sym (paid-other e a b q (k + 1) r (λ k_is. ne (omega arith))));
      left =
          λ k d w. written xs (q.project - 1) k u d
          (λ x. x.left ≡ sum_ℤ (left_by b.budget e b.pays) (first_supporters e closed (k + 1))) (rw h.as_many w)
          (λ k_is. ap (λ x. x.left) (there xs (q.project - 1) k v d is (rw h.as_many w) k_is) ∙ h.left k d w
          ∙ lefts-then e a b q closed (k + 1) r low)
          (λ ne. h.left k d w ∙ lefts-then e a b q closed (k + 1) r low);
      offer =
          λ k d w. written xs (q.project - 1) k u d
          (λ x. x.offer ≡ sum_ℤ (most_by b.budget e b.pays) (first_supporters e closed (k + 1))) (rw h.as_many w)
          (λ k_is. ap (λ x. x.offer) (there xs (q.project - 1) k v d is (rw h.as_many w) k_is) ∙ h.offer k d w
          ∙ offers-then e a b q closed (k + 1) r low)
          (λ ne. h.offer k d w ∙ offers-then e a b q closed (k + 1) r low);
      count = λ k d w. written xs (q.project - 1) k u d (λ x. x.supporters ≡ length (first_supporters e closed (k + 1)))
          (rw h.as_many w)
          (λ k_is. ap (λ x. x.supporters) (there xs (q.project - 1) k v d is (rw h.as_many w) k_is) ∙ h.count k d w)
          (λ ne. h.count k d w);
      seen = λ k d w. written xs (q.project - 1) k u d (λ x. x.last_approver ≤ opened) (rw h.as_many w)
          (λ k_is. subst (λ x. x.last_approver ≤ opened) (sym (there xs (q.project - 1) k v d is (rw h.as_many w) k_is))
          (h.seen k d w))
          (λ ne. h.seen k d w);
      marked =
          λ k d w o. written xs (q.project - 1) k u d (λ x. (x.last_approver == opened) ≡ approves e opened (k + 1))
          (rw h.as_many w)
          (λ k_is. ap (λ x. x.last_approver == opened) (there xs (q.project - 1) k v d is (rw h.as_many w) k_is)
          ∙ h.marked k d w o)
          (λ ne. h.marked k d w o);
    }

pub taken-added : (e : Instance) (a b : Taken) (closed opened : ℕ) (q : PriceRow) → AreTaken e a closed opened
    → TakesRow a b q → q.payment ≤ 10 ^ 21 → closed + 1 ≡ q.voter → opened ≡ q.voter → AreTaken e b closed opened
taken-added e a b closed opened q h r small at_hand open_is = grind arith

pub over-added : (e : Instance) (a b : Taken) (q : PriceRow) (closed : ℕ) → TakesRow a b q → closed < q.voter
    → filter (λ i. nat_lt a.budget (spent_by e a.pays i)) (range_with_len 1 closed)
    ≡ filter (λ i. nat_lt b.budget (spent_by e b.pays i)) (range_with_len 1 closed)
over-added e a b q closed r low = grind (arith, filter-same, spent-same)

over-kept : (e : Instance) (a b : Taken) (q : PriceRow) (closed : ℕ) (f : Finding) → TakesRow a b q → closed < q.voter
    → IsFindingTo closed (λ i. nat_lt a.budget (spent_by e a.pays i)) (λ i. true) (λ i. a.budget)
    (λ i. pos (spent_by e a.pays i)) f
    → IsFindingTo closed (λ i. nat_lt b.budget (spent_by e b.pays i)) (λ i. true) (λ i. b.budget)
    (λ i. pos (spent_by e b.pays i)) f
over-kept e a b q closed f r low h = grind (arith, finding-as, over-added, spent-same)

-- the first payment for a project that is not approved

pub wrong-added : (e : Instance) (a b : Taken) (q : PriceRow) (approved : Bool) (o : Option (ℕ × ℕ)) → TakesRow a b q
    → IsVoter e q.voter → IsProject e q.project → ((i c : ℕ) → q.voter < i → a.pays i c ≡ 0)
    → approved ≡ approves e q.voter q.project → IsFirstPair e (pays_wrongly e a.pays) o
    → IsFirstPair e (pays_wrongly e b.pays)
    (cond (nat_lt 0 q.payment && not approved) (first_pair o q.voter q.project) o)
wrong-added e a b q approved o r iv ip later is h = grind arith

pub steps-added : (e : Instance) (rows more closed opened steps : ℕ) → more ≡ rows + 1
    → AreSteps e rows closed opened steps → AreSteps e more closed opened (steps + 1)
steps-added e rows more closed opened steps is h = grind arith

-- the sums with the row
pub added : (e : Instance) (a b : Taken) (t u : Tally) (q : PriceRow) (v : ProjectSums) → AreTallied e a q.voter t
    → TakesRow a b q → IsVoter e q.voter → IsProject e q.project → q.payment ≤ 10 ^ 21 → t.closed + 1 ≡ q.voter
    → v ≡ get_or t.projects.items (q.project - 1) v → u.budget ≡ t.budget → u.closed ≡ t.closed
    → u.projects.items ≡ set t.projects.items (q.project - 1) (with_payment (payment_grains q.payment) v)
    → u.unapproved.first ≡ cond (nat_lt 0 q.payment && not (v.last_approver == q.voter))
    (first_pair t.unapproved.first q.voter q.project) t.unapproved.first
    → u.unapproved.count ≡ cond (nat_lt 0 q.payment && not (v.last_approver == q.voter)) (t.unapproved.count + 1)
    t.unapproved.count
    → u.over_budget ≡ t.over_budget → u.steps ≡ t.steps + 1 → AreTallied e b q.voter u
added e a b t u q v h r iv ip small at_hand is budget closed sums unapproved count over steps =
    let low : t.closed < q.voter = omega arith in
    let place : q.project - 1 < projects e = omega arith in
    let back : q.project - 1 + 1 ≡ q.project = omega arith in
    let marked : (v.last_approver == q.voter) ≡ approves e q.voter q.project =
    ap (λ x. x.last_approver == q.voter) is ∙ h.sums.marked (q.project - 1) v place low
    ∙ ap (approves e q.voter) back in
    record {
      sound = h.sound;
      budget = budget ∙ h.budget ∙ sym r.budget;
      taken = rw closed (taken-added e a b t.closed q.voter q h.taken r small at_hand refl);
      sums = rw (closed, sums) (sums-added e a b t.closed q.voter t.projects.items q v h.sums r iv ip low is);
      unapproved = record {
        first =
            rw unapproved
            (wrong-added e a b q (v.last_approver == q.voter) t.unapproved.first r iv ip
            (λ i c late. h.taken.not_later i c (omega arith)) marked h.unapproved.first);
        count =
            count-added e a b q (v.last_approver == q.voter) t.unapproved.count u.unapproved.count r iv ip marked
            h.unapproved.count count;
        few =
            omega (
              arith,
              r.rows,
              count-few (nat_lt 0 q.payment && not (v.last_approver == q.voter)) t.unapproved.count u.unapproved.count
                  a.rows h.unapproved.few count,
            );
      };
      over_budget = rw (closed, over) (over-kept e a b q t.closed t.over_budget r low h.over_budget);
      steps = rw (closed, steps) (steps-added e a.rows b.rows t.closed q.voter t.steps r.rows h.steps);
    }

-- what the voter of the row pays with it
pub paid-at-hand : (e : Instance) (a b : Taken) (q : PriceRow) (v u : AtHand) → IsAtHand e a q.voter v → TakesRow a b q
    → IsProject e q.project → u.spent ≡ v.spent + payment_grains q.payment
    → u.largest ≡ max v.largest (payment_grains q.payment) → IsAtHand e b q.voter u
paid-at-hand e a b q v u h r ip spent largest = record {
  spent = spent ∙ ap (λ n. n + payment_grains q.payment) h.spent ∙ sym (spent-here e a b q r ip);
  largest = largest ∙ ap (λ n. max n (payment_grains q.payment)) h.largest ∙ sym (top-here e a b q r ip);
}
