-- How large the sums of a tally can be.
use Rattle.std.proofs.Common.{◌≡◌, ℕ, ◌+◌, ◌-◌, ◌*◌, ◌^◌, ◌<◌, ◌≤◌, List, [], length, get_or, arith}
use Rattle.std.specs.Prelude.{IfSome, ℤ, pos, neg_ℤ, ◌≤ℤ◌}
use Rattle.std.proofs.lemmas.Bool.{cases_lt}
use Rattle.std.proofs.lemmas.List.{get_or_past}
use Rattle.std.proofs.lemmas.List.Sums.{get_or-le-sum_by, sum_by-take-le}
use Rattle.pb_election.specs.Instance.{Instance, IsProject, approvals, approves, ballot_of, projects, voters}
use Rattle.pb_cohesion.specs.Conditions.{sum_ℤ}
use Rattle.pb_price.specs.Inside.Looked.{IsSmallComparison}
use Rattle.pb_price.specs.Inside.Tallies.{AreChanged, AreInRange, AreSmall, AreTallied, IsAtHand, IsWithin, Taken, first_supporters, left_by, most_by, sums_of}
use Rattle.pb_price.specs.declared.at_hand.AtHand.{AtHand}
use Rattle.pb_price.specs.declared.tally.ProjectSums.{ProjectSums}
use Rattle.pb_price.specs.declared.tally.Tally.{Tally}
use Rattle.pb_price.proofs.Amounts.{left-small, most-small, paid-most, spent-most, top-most}
use Rattle.pb_price.proofs.Ballots.{nothing}
use Rattle.pb_price.proofs.Signed.{count-most, signed-most}

pub spent-bound : {opened : ℕ} (e : Instance) (a : Taken) (t : Tally) (i : ℕ) (v : AtHand) → AreTallied e a opened t
    → IsAtHand e a i v → v.spent ≤ 20000 * 10 ^ 27
spent-bound e a t i v h w = omega (arith, w.spent, spent-most e a.pays i h.taken.small, h.sound.few_projects)

pub largest-bound : {opened : ℕ} (e : Instance) (a : Taken) (t : Tally) (i : ℕ) (v : AtHand) → AreTallied e a opened t
    → IsAtHand e a i v → v.largest ≤ 10 ^ 27
largest-bound e a t i v h w = omega (arith, w.largest, top-most e a.pays i h.taken.small)

pub paid-bound : {opened : ℕ} (e : Instance) (a : Taken) (t : Tally) (k : ℕ) (v : ProjectSums) → AreTallied e a opened t → k < projects e
    → v ≡ get_or t.projects.items k v → v.paid ≤ 10 ^ 6 * 10 ^ 27
paid-bound e a t k v h within is = grind (arith, paid-most)

few-times : (n k : ℕ) (x : ℤ) → k ≤ n → n ≤ 1000000 → (neg_ℤ (pos (k * 10 ^ 32)) ≤ℤ x) × (x ≤ℤ pos (k * 10 ^ 32))
    → IsWithin (10 ^ 38) x
few-times n k x h few b = grind arith

-- what is known of the voter at hand, and of the sums before it is closed
pub left-bound : {opened : ℕ} (e : Instance) (a : Taken) (t : Tally) (i : ℕ) → AreTallied e a opened t
    → IsWithin (10 ^ 32) (left_by a.budget e a.pays i)
left-bound e a t i h = left-small a.budget e a.pays i h.sound.few_projects h.taken.small_budget h.taken.small

pub most-bound : {opened : ℕ} (e : Instance) (a : Taken) (t : Tally) (i : ℕ) → AreTallied e a opened t
    → IsWithin (10 ^ 32) (most_by a.budget e a.pays i)
most-bound e a t i h = most-small a.budget e a.pays i h.taken.small_budget h.taken.small

-- a sum over the supporters among the closed voters
few-supporters : {opened : ℕ} (e : Instance) (a : Taken) (t : Tally) (k : ℕ) (f : ℕ → ℤ) → AreTallied e a opened t
    → ((i : ℕ) → IsWithin (10 ^ 32) (f i)) → IsWithin (10 ^ 38) (sum_ℤ f (first_supporters e t.closed k))
few-supporters e a t k f h each =
    few-times t.closed (length (first_supporters e t.closed k)) (sum_ℤ f (first_supporters e t.closed k))
    (count-most (λ i. approves e i k) 1 t.closed) (omega (arith, h.sound.few_voters, h.taken.within))
    (signed-most f (first_supporters e t.closed k) each)

pub sums-bound : {opened : ℕ} (e : Instance) (a : Taken) (t : Tally) (k : ℕ) (d : ProjectSums) → AreTallied e a opened t → t.closed < voters e
    → k < projects e → AreSmall (get_or t.projects.items k d)
sums-bound e a t k d h more within = record {
  left = rw (h.sums.left k d within)
      (few-supporters e a t (k + 1) (left_by a.budget e a.pays) h (λ i. left-bound e a t i h));
  offer = rw (h.sums.offer k d within)
      (few-supporters e a t (k + 1) (most_by a.budget e a.pays) h (λ i. most-bound e a t i h));
  supporters = omega (
    arith,
    h.sums.count k d within,
    count-most (λ i. approves e i (k + 1)) 1 t.closed,
    h.sound.few_voters,
  );
}

-- the sums of all closed voters, of project c
pub sums-of-bound : {opened : ℕ} (e : Instance) (a : Taken) (t : Tally) (c : ℕ) → AreTallied e a opened t → IsProject e c
    → AreInRange (sums_of t.projects.items c)
sums-of-bound e a t c h ip =
    let within : c - 1 < projects e = omega (arith, ip.1) in
    record {
      paid =
          omega
          (arith, h.sums.paid (c - 1) nothing within, paid-most e a.pays (c - 1 + 1) h.taken.small, h.sound.few_voters);
      left = rw (h.sums.left (c - 1) nothing within)
          (few-supporters e a t (c - 1 + 1) (left_by a.budget e a.pays) h (λ i. left-bound e a t i h));
      offer = rw (h.sums.offer (c - 1) nothing within)
          (few-supporters e a t (c - 1 + 1) (most_by a.budget e a.pays) h (λ i. most-bound e a t i h));
    }

long : (bs : List (List ℕ)) (k : ℕ) → length (get_or bs k []) ≤ approvals bs
long bs k = grind (arith, cases_lt, get_or-le-sum_by, get_or, get_or_past)

pub ballot-bound : (e : Instance) (i : ℕ) → length (ballot_of e i) ≤ approvals e.ballots
ballot-bound e i = long e.ballots (i - 1)

pub steps-bound : {opened : ℕ} (e : Instance) (a : Taken) (t : Tally) → AreTallied e a opened t → a.rows ≤ 10 ^ 12 → t.steps ≤ 2 ^ 61
steps-bound e a t h few = grind (arith, ballot-bound, sum_by-take-le)

-- the same lists
pub changed-as : (change : ProjectSums → ProjectSums) (xs xs' ys ys' : List ProjectSums) (b b' : List ℕ) → xs' ≡ xs
    → ys' ≡ ys → b' ≡ b → AreChanged change xs' ys' b' → AreChanged change xs ys b
changed-as change xs xs' ys ys' b b' p q r h = grind arith

-- what is kept of C2
pub over-few : {opened : ℕ} (e : Instance) (a : Taken) (t : Tally) → AreTallied e a opened t → t.over_budget.count ≤ 10 ^ 6
over-few e a t h = grind (arith, count-most)

pub over-small : {opened : ℕ} (e : Instance) (a : Taken) (t : Tally) → AreTallied e a opened t → IfSome t.over_budget.shown IsSmallComparison
over-small e a t h = grind (arith, spent-most)
