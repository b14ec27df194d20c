-- A tally of no payment.
use Rattle.std.proofs.Common.{◌≡◌, ℕ, ◌^◌, ◌≤◌, replicate, refl, sym, ◌∙◌, ap, arith}
use Rattle.std.specs.Prelude.{None, nat_lt, pos, true}
use Rattle.std.specs.List.{range_with_len}
use Rattle.std.proofs.lemmas.List.{get_or-replicate, length-replicate}
use Rattle.pb_election.specs.Instance.{Instance, projects, voters}
use Rattle.pb_election.specs.Text.{IsElection}
use Rattle.pb_cohesion.proofs.Sums.{sum-zero}
use Rattle.pb_price.specs.Inside.Tallies.{AreTallied, IsAtHand, Taken, no_payment, spent_by}
use Rattle.pb_price.specs.declared.at_hand.AtHand.{AtHand}
use Rattle.pb_price.specs.declared.tally.Tally.{Tally}
use Rattle.pb_price.proofs.Amounts.{spent-none, top-none}
use Rattle.pb_price.proofs.Ballots.{nothing}
use Rattle.pb_price.proofs.Counting.{wrong-start}
use Rattle.pb_price.proofs.OneMore.{none-found, nothing_found}

pub start : (e : Instance) (t : Tally) → IsElection e → t.budget ≤ 10 ^ 27
    → t.projects.items ≡ replicate (projects e) nothing → t.closed ≡ 0 → t.unapproved ≡ record { first = None; count = 0 }
    → t.over_budget ≡ nothing_found → t.steps ≡ 0 → AreTallied e (no_payment t.budget) 0 t
start e t sound small items closed unapproved over steps = record {
  sound = sound;
  budget = refl;
  taken = rw closed (record {
    within = omega arith;
    small_budget = small;
    small = λ i c. omega arith;
    not_later = λ i c late. refl;
    seen = omega arith;
    not_unseen = λ c early. refl;
  });
  sums = rw (closed, items) (record {
    as_many = length-replicate (projects e) nothing;
    paid =
        λ k d w.
        (ap (λ x. x.paid) (get_or-replicate (projects e) k nothing d w) ∙ sym (sum-zero (range_with_len 1 (voters e))));
    left = λ k d w. ap (λ x. x.left) (get_or-replicate (projects e) k nothing d w);
    offer = λ k d w. ap (λ x. x.offer) (get_or-replicate (projects e) k nothing d w);
    count = λ k d w. ap (λ x. x.supporters) (get_or-replicate (projects e) k nothing d w);
    seen =
        λ k d w.
        (let is = ap (λ x. x.last_approver) (get_or-replicate (projects e) k nothing d w) in omega (arith, is));
    marked = λ k d w late. absurd (omega arith);
  });
  unapproved = rw unapproved (record { first = λ i c. refl; count = sym (wrong-start e); few = omega arith });
  over_budget =
      rw (closed, over)
      (none-found (λ i. nat_lt t.budget (spent_by e (λ j c. 0) i)) (λ i. true) (λ i. t.budget)
      (λ i. pos (spent_by e (λ j c. 0) i)));
  steps =
      rw (closed, steps) (record { low = omega arith; high = omega arith; unopened = λ early. omega arith });
}

-- nothing is paid by a voter without payments
pub none-at-hand : (e : Instance) (a : Taken) (i : ℕ) (v : AtHand) → ((c : ℕ) → a.pays i c ≡ 0) → v.spent ≡ 0
    → v.largest ≡ 0 → IsAtHand e a i v
none-at-hand e a i v none spent largest = record {
  spent = spent ∙ sym (spent-none e a.pays i none);
  largest = largest ∙ sym (top-none e a.pays i none);
}
