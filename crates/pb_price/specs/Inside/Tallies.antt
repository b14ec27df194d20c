-- What the code's own sums of payments stand for, as far as the payments were taken. No claim on a certificate rests on
-- this.
use Rattle.std.specs.Prelude.{◌≡◌, ◌<◌, ◌≤◌, ◌+◌, ◌-◌, ◌*◌, ◌^◌, ◌==◌, ◌&&◌, ◌||◌, not, nat_lt, if◌then◌else◌, ℕ, ℤ, pos, neg_ℤ, ◌+ℤ◌, ◌-ℤ◌, ◌≤ℤ◌, int_lt, Bool, false, true, List, length, take, filter, sum_by, slice_index_or, Option, Some, None}
use Rattle.std.specs.Int.{int_max}
use Rattle.std.specs.List.{list_any, range_with_len}
use Rattle.pb_money.specs.Grains.{cost_grains, payment_grains}
use Rattle.pb_election.specs.Instance.{Instance, IsProject, IsVoter, all_projects, all_voters, approvals, approves, ballot_of, cost_of, most_voters, projects, supporters, voters}
use Rattle.pb_election.specs.Outcome.{has}
use Rattle.pb_election.specs.Text.{IsElection}
use Rattle.pb_certificate.specs.Prices.{Prices, most_numerator}
use Rattle.pb_certificate.specs.declared.prices.row.PriceRow.{PriceRow}
use Rattle.pb_cohesion.specs.Amounts.{beta, largest_by, left, paid, spent}
use Rattle.pb_cohesion.specs.Conditions.{culprits_of_C1, culprits_of_C2, most_of, sum_ℤ}
use Rattle.pb_price.specs.Findings.{finding, payment_finding}
use Rattle.pb_price.specs.Inside.Noted.{IsFindingTo}
use Rattle.pb_price.specs.declared.PaymentFinding.{PaymentFinding}
use Rattle.pb_price.specs.declared.ProjectMargins.{ProjectMargins}
use Rattle.pb_price.specs.declared.at_hand.AtHand.{AtHand}
use Rattle.pb_price.specs.declared.open_tally.OpenTally.{OpenTally}
use Rattle.pb_price.specs.declared.tally.ProjectSums.{ProjectSums}
use Rattle.pb_price.specs.declared.tally.Tally.{Tally}

-- Throughout, f says what a voter pays for a project, as a numerator, by the payments that were taken. So `paid_by`,
-- `spent_by`, `top_by`, `left_by` and `most_by` are `paid`, `spent`, `top`, `left` and `most_of` of a price system, as
-- far as it is known.

abbrev pub paid_by : Instance → (ℕ → ℕ → ℕ) → ℕ → ℕ
paid_by e f c = sum_by (λ i. payment_grains (f i c)) (all_voters e)

abbrev pub spent_by : Instance → (ℕ → ℕ → ℕ) → ℕ → ℕ
spent_by e f i = sum_by (λ c. payment_grains (f i c)) (all_projects e)

abbrev pub top_by : Instance → (ℕ → ℕ → ℕ) → ℕ → ℕ
top_by e f i = largest_by (λ c. payment_grains (f i c)) (all_projects e)

abbrev pub left_by : ℕ → Instance → (ℕ → ℕ → ℕ) → ℕ → ℤ
left_by budget e f i = pos budget -ℤ pos (spent_by e f i)

abbrev pub most_by : ℕ → Instance → (ℕ → ℕ → ℕ) → ℕ → ℤ
most_by budget e f i = int_max (pos (top_by e f i)) (left_by budget e f i)

-- the supporters of a project among the first so many voters
abbrev pub first_supporters : Instance → ℕ → ℕ → List ℕ
first_supporters e n c = filter (λ i. approves e i c) (range_with_len 1 n)

-- whether a voter pays for a project that it does not approve
abbrev pub pays_wrongly : Instance → (ℕ → ℕ → ℕ) → ℕ → ℕ → Bool
pays_wrongly e f i c = nat_lt 0 (f i c) && not (approves e i c)

-- how many payments are for projects that their voters do not approve
abbrev pub wrong_count : Instance → (ℕ → ℕ → ℕ) → ℕ
wrong_count e f = sum_by (λ i. length (filter (pays_wrongly e f i) (all_projects e))) (all_voters e)

-- the first pair that passes a test: that of the lowest number, and then of the lowest other number
abbrev pub IsFirstPair : Instance → (ℕ → ℕ → Bool) → Option (ℕ × ℕ) → Type 0
IsFirstPair e q None = (i c : ℕ) → q i c ≡ false
IsFirstPair e q (Some p) = IsVoter e p.0 × IsProject e p.1 × (q p.0 p.1 ≡ true) × ((i c : ℕ) → i < p.0 → q i c ≡ false)
    × ((c : ℕ) → c < p.1 → q p.0 c ≡ false)

-- the first of a pair that is known, if there is one, and another
abbrev pub first_pair : Option (ℕ × ℕ) → ℕ → ℕ → Option (ℕ × ℕ)
first_pair None i c = Some (i, c)
first_pair (Some p) i c = if nat_lt p.0 i || nat_lt p.1 c then Some p else Some (i, c)

-- what was taken so far, and by what terms
pub record Taken : Type 0 where
  pub budget : ℕ  -- of each voter, in grains
  pub pays : ℕ → ℕ → ℕ
  pub rows : ℕ

-- no payment so far, for voters with so many grains each
abbrev pub no_payment : ℕ → Taken
no_payment budget = record { budget = budget; pays = λ i c. 0; rows = 0 }

-- the sums of the projects: what is paid by all voters, what those supporters have left and can offer that are closed,
-- and how many these are, and the last voter seen to approve the project
pub record AreSumsOf (e : Instance) (a : Taken) (closed opened : ℕ) (sums : List ProjectSums) : Type 0 where
  pub as_many : length sums ≡ projects e
  pub paid : (k : ℕ) (d : ProjectSums) → k < projects e → (slice_index_or sums k d).paid ≡ paid_by e a.pays (k + 1)
  pub left : (k : ℕ) (d : ProjectSums) → k < projects e
      → (slice_index_or sums k d).left ≡ sum_ℤ (left_by a.budget e a.pays) (first_supporters e closed (k + 1))
  pub offer : (k : ℕ) (d : ProjectSums) → k < projects e
      → (slice_index_or sums k d).offer ≡ sum_ℤ (most_by a.budget e a.pays) (first_supporters e closed (k + 1))
  pub count : (k : ℕ) (d : ProjectSums) → k < projects e
      → (slice_index_or sums k d).supporters ≡ length (first_supporters e closed (k + 1))
  pub seen : (k : ℕ) (d : ProjectSums) → k < projects e → (slice_index_or sums k d).last_approver ≤ opened
  pub marked : (k : ℕ) (d : ProjectSums) → k < projects e → closed < opened
      → ((slice_index_or sums k d).last_approver == opened) ≡ approves e opened (k + 1)

-- how many grains the budget of a voter, a payment or the cost of a project has at most
abbrev pub most_grains : ℕ
most_grains = 10 ^ 27

-- what holds of what was taken, where so many voters are closed: the payments of those and of the next one, for
-- projects of the election
pub record AreTaken (e : Instance) (a : Taken) (closed opened : ℕ) : Type 0 where
  pub within : closed ≤ voters e
  pub small_budget : a.budget ≤ most_grains
  pub small : (i c : ℕ) → a.pays i c ≤ most_numerator
  pub not_later : (i c : ℕ) → closed + 1 < i → a.pays i c ≡ 0
  pub seen : opened ≤ closed + 1
  pub not_unseen : (c : ℕ) → opened ≤ closed → a.pays (closed + 1) c ≡ 0

-- the steps: one for each row, and one for each closed voter; at least none and at most two for each approval of a
-- closed voter, and one for each of the voter at hand once it is opened
pub record AreSteps (e : Instance) (rows closed opened steps : ℕ) : Type 0 where
  pub low : rows + closed ≤ steps
  pub high : steps ≤ rows + 2 * approvals (take closed e.ballots) + closed + length (ballot_of e (closed + 1))
  pub unopened : opened ≤ closed → steps ≤ rows + 2 * approvals (take closed e.ballots) + closed

-- the payments for projects that their voters do not approve: the first, and how many
pub record FindsUnapproved (e : Instance) (a : Taken) (f : PaymentFinding) : Type 0 where
  pub first : IsFirstPair e (pays_wrongly e a.pays) f.first
  pub count : f.count ≡ wrong_count e a.pays
  pub few : f.count ≤ a.rows

-- the sums are those of what was taken, where `opened` is the last voter whose ballot was gone through for its rows
pub record AreTallied (e : Instance) (a : Taken) (opened : ℕ) (t : Tally) : Type 0 where
  pub sound : IsElection e
  pub budget : t.budget ≡ a.budget
  pub taken : AreTaken e a t.closed opened
  pub sums : AreSumsOf e a t.closed opened t.projects.items
  pub unapproved : FindsUnapproved e a t.unapproved
  pub over_budget : IsFindingTo t.closed (λ i. nat_lt a.budget (spent_by e a.pays i)) (λ i. true) (λ i. a.budget)
      (λ i. pos (spent_by e a.pays i)) t.over_budget
  pub steps : AreSteps e a.rows t.closed opened t.steps

-- what voter i pays by what was taken: for all projects together, and the most for one
pub record IsAtHand (e : Instance) (a : Taken) (i : ℕ) (h : AtHand) : Type 0 where
  pub spent : h.spent ≡ spent_by e a.pays i
  pub largest : h.largest ≡ top_by e a.pays i

-- the tally is that of what was taken, and the voter behind the closed ones is at hand
pub record Tallied (e : Instance) (a : Taken) (t : OpenTally) : Type 0 where
  pub tally : AreTallied e a t.at_hand.opened t.tally
  pub at_hand : IsAtHand e a (t.tally.closed + 1) t.at_hand

-- one more row: the payment of a pair that had none
pub record TakesRow (a b : Taken) (q : PriceRow) : Type 0 where
  pub budget : b.budget ≡ a.budget
  pub rows : b.rows ≡ a.rows + 1
  pub none_yet : a.pays q.voter q.project ≡ 0
  pub here : b.pays q.voter q.project ≡ q.payment
  pub voters : (i c : ℕ) → (i ≡ q.voter → ⊥) → b.pays i c ≡ a.pays i c
  pub projects : (i c : ℕ) → (c ≡ q.project → ⊥) → b.pays i c ≡ a.pays i c

-- a row can be taken
pub record CanTakeRow (e : Instance) (t : OpenTally) (q : PriceRow) : Type 0 where
  pub taken : Taken
  pub tallied : Tallied e taken t
  pub voter : IsVoter e q.voter
  pub project : IsProject e q.project
  pub small : q.payment ≤ most_numerator
  pub follows : t.tally.closed < q.voter
  pub none_yet : taken.pays q.voter q.project ≡ 0
  pub few : taken.rows ≤ 10 ^ 12

-- a row of the voter behind the closed ones can be added, once its ballot was gone through
pub record CanAddRow (e : Instance) (t : Tally) (q : PriceRow) : Type 0 where
  pub taken : Taken
  pub tallied : AreTallied e taken q.voter t
  pub voter : IsVoter e q.voter
  pub project : IsProject e q.project
  pub small : q.payment ≤ most_numerator
  pub follows : t.closed + 1 ≡ q.voter
  pub few : taken.rows ≤ 10 ^ 12

-- each project of a ballot was changed in one way
pub record AreChanged (change : ProjectSums → ProjectSums) (old new : List ProjectSums) (ballot : List ℕ) : Type 0 where
  pub as_many : length new ≡ length old
  pub each : (k : ℕ) (d : ProjectSums) → k < length old
      → slice_index_or new k d
      ≡ (if list_any (λ j. j == k + 1) ballot then change (slice_index_or old k d) else slice_index_or old k d)

-- it was marked with a voter
abbrev pub marked_with : ℕ → ProjectSums → ProjectSums
marked_with voter s = record s { last_approver = voter }

-- it has one more supporter, which has so much left and can offer so much
abbrev pub with_supporter : ℤ → ℤ → ProjectSums → ProjectSums
with_supporter left offer s =
    record s { left = s.left +ℤ left; offer = s.offer +ℤ offer; supporters = s.supporters + 1 }

-- an integer from -n to n
abbrev pub IsWithin : ℕ → ℤ → Type 0
IsWithin n x = (neg_ℤ (pos n) ≤ℤ x) × (x ≤ℤ pos n)

-- sums that can take one more supporter
pub record AreSmall (s : ProjectSums) : Type 0 where
  pub left : IsWithin (10 ^ 38) s.left
  pub offer : IsWithin (10 ^ 38) s.offer
  pub supporters : s.supporters ≤ most_voters

-- the sums are those of a price system: of each project what is paid for it, what its supporters have left and can
-- offer, and how many these are
pub record AreSums (e : Instance) (p : Prices) (sums : List ProjectSums) : Type 0 where
  pub as_many : length sums ≡ projects e
  pub paid : (k : ℕ) (d : ProjectSums) → k < projects e → (slice_index_or sums k d).paid ≡ paid e p (k + 1)
  pub left : (k : ℕ) (d : ProjectSums) → k < projects e
      → (slice_index_or sums k d).left ≡ sum_ℤ (left e p) (supporters e (k + 1))
  pub offer : (k : ℕ) (d : ProjectSums) → k < projects e
      → (slice_index_or sums k d).offer ≡ sum_ℤ (most_of e p) (supporters e (k + 1))
  pub count : (k : ℕ) (d : ProjectSums) → k < projects e
      → (slice_index_or sums k d).supporters ≡ length (supporters e (k + 1))

-- the whole tally is that of a price system
pub record IsTallyOf (e : Instance) (p : Prices) (t : Tally) : Type 0 where
  pub budget : t.budget ≡ beta p
  pub sums : AreSums e p t.projects.items
  pub unapproved : t.unapproved ≡ payment_finding (culprits_of_C1 e p)
  pub over_budget : t.over_budget ≡ finding (culprits_of_C2 e p) (all_voters e) (λ i. beta p) (λ i. pos (spent e p i))

-- The conditions as the sums tell them, where w marks the funded projects and d is the denominator.

abbrev pub sums_of : List ProjectSums → ℕ → ProjectSums
sums_of sums c =
    slice_index_or sums (c - 1) (record { paid = 0; left = pos 0; offer = pos 0; supporters = 0; last_approver = 0 })

-- a funded project that is not paid for exactly
abbrev pub not_exactly : Instance → List Bool → ℕ → List ProjectSums → ℕ → Bool
not_exactly e w d sums c = has w c && not ((sums_of sums c).paid == cost_grains (cost_of e c) d)

-- an unfunded project that is paid for
abbrev pub in_vain : List Bool → List ProjectSums → ℕ → Bool
in_vain w sums c = not (has w c) && not ((sums_of sums c).paid == 0)

-- an unfunded project whose supporters have more left, or in the stable form can offer more, than it costs
abbrev pub has_more : Instance → List Bool → ℕ → Bool → List ProjectSums → ℕ → Bool
has_more e w d stable sums c =
    not (has w c) && int_lt (pos (cost_grains (cost_of e c) d))
    (if stable then (sums_of sums c).offer else (sums_of sums c).left)

-- the figures of a project
abbrev pub figures_of : Instance → List Bool → ℕ → List ProjectSums → ℕ → ProjectMargins
figures_of e w d sums c = record {
  funded = has w c;
  supporters = (sums_of sums c).supporters;
  cost = cost_grains (cost_of e c) d;
  paid = (sums_of sums c).paid;
  left = (sums_of sums c).left;
  offer = (sums_of sums c).offer;
}

-- sums that fit, and whose differences from a cost do
pub record AreInRange (s : ProjectSums) : Type 0 where
  pub paid : s.paid ≤ 10 ^ 34
  pub left : IsWithin (10 ^ 38) s.left
  pub offer : IsWithin (10 ^ 38) s.offer
