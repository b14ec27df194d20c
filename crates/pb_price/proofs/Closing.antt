-- A tally whose voter at hand is opened, or closed.
use mir.Syntax.{w128}
use mir.Val.{of_z, to_z}
use Rattle.std.proofs.Common.{◌≡◌, ℕ, ◌+◌, ◌^◌, ◌<◌, ◌≤◌, Bool, true, false, cond, List, length, get_or, take, refl, sym, ◌∙◌, ap, subst, arith}
use Rattle.std.specs.Prelude.{ℤ, pos, ◌+ℤ◌, ◌-ℤ◌, nat_lt}
use Rattle.std.specs.Int.{int_max}
use Rattle.std.proofs.lemmas.List.Sums.{sum_by_more}
use Rattle.pb_election.specs.Instance.{Instance, approvals, approves, ballot_of, voters}
use Rattle.pb_price.specs.Inside.Tallies.{AreChanged, AreSumsOf, AreTallied, IsAtHand, IsWithin, Taken, left_by, marked_with, most_by, spent_by, top_by, with_supporter}
use Rattle.pb_price.specs.declared.at_hand.AtHand.{AtHand}
use Rattle.pb_price.specs.declared.tally.ProjectSums.{ProjectSums}
use Rattle.pb_price.specs.declared.tally.Tally.{Tally}
use Rattle.pb_price.proofs.Bounds.{left-bound, most-bound}
use Rattle.pb_price.specs.Inside.Noted.{IsFindingTo, noted}
use Rattle.pb_price.specs.Inside.Looked.{compared}
use Rattle.pb_price.proofs.OneMore.{tried}
use Rattle.pb_price.proofs.Signed.{count-next, signed-next, small-kept}

-- a part of the sums of a project that may be changed
part : {A : Type 0} (get : ProjectSums → A) (b : Bool) (s t : ProjectSums) → get (cond b s t) ≡ cond b (get s) (get t)
part get true s t = refl
part get false s t = refl

-- a part that the change leaves as it is
part-kept : {A : Type 0} {change : ProjectSums → ProjectSums} {xs ys : List ProjectSums} {b : List ℕ}
    (get : ProjectSums → A) (k : ℕ) (d : ProjectSums) → AreChanged change xs ys b → k < length xs
    → ((s : ProjectSums) → get (change s) ≡ get s) → get (get_or ys k d) ≡ get (get_or xs k d)
part-kept {change} {xs} {b} get k d m w same = grind arith

-- opened: the projects of its ballot are marked
sums-opened : (e : Instance) (a : Taken) (closed opened : ℕ) (xs ys : List ProjectSums) → AreSumsOf e a closed opened xs
    → opened ≤ closed → AreChanged (marked_with (closed + 1)) xs ys (ballot_of e (closed + 1))
    → AreSumsOf e a closed (closed + 1) ys
sums-opened e a closed opened xs ys h early m = grind arith

pub opened : {before : ℕ} (e : Instance) (a : Taken) (t u : Tally) → AreTallied e a before t → before ≤ t.closed
    → AreChanged (marked_with (t.closed + 1)) t.projects.items u.projects.items (ballot_of e (t.closed + 1))
    → u.budget ≡ t.budget → u.closed ≡ t.closed → u.unapproved ≡ t.unapproved → u.over_budget ≡ t.over_budget
    → u.steps ≡ t.steps + length (ballot_of e (t.closed + 1)) → AreTallied e a (t.closed + 1) u
opened {before} e a t u h early m budget closed unapproved over steps = record {
  sound = h.sound;
  budget = budget ∙ h.budget;
  taken = rw closed (record {
    within = h.taken.within;
    small_budget = h.taken.small_budget;
    small = h.taken.small;
    not_later = h.taken.not_later;
    seen = omega arith;
    not_unseen = λ c soon. absurd (omega arith);
  });
  sums = rw closed (sums-opened e a t.closed before t.projects.items u.projects.items h.sums early m);
  unapproved = rw unapproved h.unapproved;
  over_budget = rw (closed, over) h.over_budget;
  steps = rw (closed, steps) (record {
    low = omega (arith, h.steps.low);
    high = omega (arith, h.steps.unopened early);
    unopened = λ soon. absurd (omega arith);
  });
}

-- closed: each project of its ballot has one supporter more
sums-closed : (e : Instance) (a : Taken) (closed opened : ℕ) (l o : ℤ) (xs ys : List ProjectSums)
    → AreSumsOf e a closed opened xs → opened ≤ closed + 1
    → l ≡ left_by a.budget e a.pays (closed + 1) → o ≡ most_by a.budget e a.pays (closed + 1)
    → AreChanged (with_supporter l o) xs ys (ballot_of e (closed + 1)) → AreSumsOf e a (closed + 1) opened ys
sums-closed e a closed opened l o xs ys h seen_is l_is o_is m = record {
  as_many = m.as_many ∙ h.as_many;
  paid = λ k d w. (part-kept (λ s. s.paid) k d m (rw h.as_many w) (λ s. refl) ∙ h.paid k d w);
  left = λ k d w. (
      ap (λ x. x.left) (m.each k d (rw h.as_many w))
      ∙ part (λ s. s.left) (approves e (closed + 1) (k + 1)) (with_supporter l o (get_or xs k d)) (get_or xs k d)
      ∙ ap (λ x. cond (approves e (closed + 1) (k + 1)) ((get_or xs k d).left +ℤ x) (get_or xs k d).left) l_is
      ∙ signed-next (left_by a.budget e a.pays) (λ i. approves e i (k + 1)) closed (get_or xs k d).left
      (approves e (closed + 1) (k + 1)) refl (h.left k d w));
  offer = λ k d w. (
      ap (λ x. x.offer) (m.each k d (rw h.as_many w))
      ∙ part (λ s. s.offer) (approves e (closed + 1) (k + 1)) (with_supporter l o (get_or xs k d)) (get_or xs k d)
      ∙ ap (λ x. cond (approves e (closed + 1) (k + 1)) ((get_or xs k d).offer +ℤ x) (get_or xs k d).offer) o_is
      ∙ signed-next (most_by a.budget e a.pays) (λ i. approves e i (k + 1)) closed (get_or xs k d).offer
      (approves e (closed + 1) (k + 1)) refl (h.offer k d w));
  count = λ k d w. (
      ap (λ x. x.supporters) (m.each k d (rw h.as_many w))
      ∙ part (λ s. s.supporters) (approves e (closed + 1) (k + 1)) (with_supporter l o (get_or xs k d)) (get_or xs k d)
      ∙ count-next (λ i. approves e i (k + 1)) closed (get_or xs k d).supporters (approves e (closed + 1) (k + 1)) refl
      (h.count k d w));
  seen =
      λ k d w. omega (
        arith,
        part-kept (λ s. s.last_approver) k d m (rw h.as_many w) (λ s. refl),
        h.seen k d w,
      );
  marked = λ k d w early. absurd (omega arith);
}

-- the approvals of one more voter
pub approvals-next : (e : Instance) (n : ℕ) → n < voters e
    → approvals (take (n + 1) e.ballots) ≡ approvals (take n e.ballots) + length (ballot_of e (n + 1))
approvals-next e n h = grind (arith, sum_by_more, get_or)

-- what the voter at hand has left and can offer
left-is : {opened : ℕ} (e : Instance) (a : Taken) (t : Tally) (v : AtHand) → AreTallied e a opened t
    → IsAtHand e a (t.closed + 1) v → pos t.budget -ℤ pos v.spent ≡ left_by a.budget e a.pays (t.closed + 1)
left-is e a t v h w = ap (λ x. pos x -ℤ pos v.spent) h.budget ∙ ap (λ x. pos a.budget -ℤ pos x) w.spent

most-is : {opened : ℕ} (e : Instance) (a : Taken) (t : Tally) (v : AtHand) → AreTallied e a opened t
    → IsAtHand e a (t.closed + 1) v
    → int_max (pos v.largest) (pos t.budget -ℤ pos v.spent) ≡ most_by a.budget e a.pays (t.closed + 1)
most-is e a t v h w = ap (λ x. int_max (pos x) (pos t.budget -ℤ pos v.spent)) w.largest
    ∙ ap (int_max (pos (top_by e a.pays (t.closed + 1)))) (left-is e a t v h w)

-- the same, as they are kept in 128 bits
pub left-kept : {opened : ℕ} (e : Instance) (a : Taken) (t : Tally) (v : AtHand) (l : ℤ) → AreTallied e a opened t
    → IsAtHand e a (t.closed + 1) v → l ≡ pos t.budget -ℤ pos v.spent
    → to_z w128 (of_z w128 l) ≡ left_by a.budget e a.pays (t.closed + 1)
left-kept e a t v l h w l_is =
    let now : l ≡ left_by a.budget e a.pays (t.closed + 1) = l_is ∙ left-is e a t v h w in
    small-kept l (subst (IsWithin (10 ^ 32)) (sym now) (left-bound e a t (t.closed + 1) h)) ∙ now

pub most-kept : {opened : ℕ} (e : Instance) (a : Taken) (t : Tally) (v : AtHand) (l o : ℤ) → AreTallied e a opened t
    → IsAtHand e a (t.closed + 1) v → l ≡ pos t.budget -ℤ pos v.spent
    → o ≡ int_max (pos v.largest) (to_z w128 (of_z w128 l))
    → to_z w128 (of_z w128 o) ≡ most_by a.budget e a.pays (t.closed + 1)
most-kept e a t v l o h w l_is o_is =
    let now : o ≡ most_by a.budget e a.pays (t.closed + 1) =
    o_is ∙ ap (int_max (pos v.largest)) (left-kept e a t v l h w l_is ∙ sym (left-is e a t v h w))
    ∙ most-is e a t v h w in
    small-kept o (subst (IsWithin (10 ^ 32)) (sym now) (most-bound e a t (t.closed + 1) h)) ∙ now

-- nothing was taken of the voter behind the one at hand
pub next-unpaid : {opened : ℕ} (e : Instance) (a : Taken) (t : Tally) → AreTallied e a opened t
    → (c : ℕ) → a.pays (t.closed + 1 + 1) c ≡ 0
next-unpaid e a t h c = h.taken.not_later (t.closed + 1 + 1) c (omega arith)

pub closed : (e : Instance) (a : Taken) (t u : Tally) (v : AtHand) (l o : ℤ) → AreTallied e a v.opened t
    → IsAtHand e a (t.closed + 1) v → t.closed < voters e
    → l ≡ left_by a.budget e a.pays (t.closed + 1) → o ≡ most_by a.budget e a.pays (t.closed + 1)
    → AreChanged (with_supporter l o) t.projects.items u.projects.items (ballot_of e (t.closed + 1))
    → u.budget ≡ t.budget → u.closed ≡ t.closed + 1 → u.unapproved ≡ t.unapproved
    → u.over_budget ≡ noted (nat_lt t.budget v.spent) (compared (t.closed + 1) t.budget (pos v.spent)) t.over_budget
    → u.steps ≡ t.steps + (length (ballot_of e (t.closed + 1)) + 1) → AreTallied e a v.opened u
closed e a t u v l o h w more l_is o_is m budget closed_is unapproved over steps = record {
  sound = h.sound;
  budget = budget ∙ h.budget;
  taken = rw closed_is (record {
    within = omega arith;
    small_budget = h.taken.small_budget;
    small = h.taken.small;
    not_later = λ i c late. h.taken.not_later i c (omega arith);
    seen = omega (arith, h.taken.seen);
    not_unseen = λ c soon. next-unpaid e a t h c;
  });
  sums =
      rw closed_is
      (sums-closed e a t.closed v.opened l o t.projects.items u.projects.items h.sums h.taken.seen l_is o_is m);
  unapproved = rw unapproved h.unapproved;
  over_budget =
      rw closed_is
      (subst
      (λ f. IsFindingTo (t.closed + 1) (λ i. nat_lt a.budget (spent_by e a.pays i)) (λ i. true) (λ i. a.budget)
      (λ i. pos (spent_by e a.pays i)) f)
      (sym (over ∙ ap (λ x. noted (nat_lt x v.spent) (compared (t.closed + 1) x (pos v.spent)) t.over_budget) h.budget
      ∙ ap (λ x. noted (nat_lt a.budget x) (compared (t.closed + 1) a.budget (pos x)) t.over_budget) w.spent))
      (tried (λ i. nat_lt a.budget (spent_by e a.pays i)) (λ i. true) (λ i. a.budget)
      (λ i. pos (spent_by e a.pays i)) t.closed t.over_budget _ h.over_budget refl refl));
  steps = rw (closed_is, steps) (record {
    low = omega (arith, h.steps.low);
    high = omega (arith, h.steps.high, approvals-next e t.closed more);
    unopened = λ soon. omega (arith, h.steps.high, approvals-next e t.closed more);
  });
}
