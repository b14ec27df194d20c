use Rattle.std.proofs.Common.{ℕ, ◌≡◌, List, rules, subst, ◌∙◌, ap, arith}
use Rattle.std.specs.List.{range_with_len}
use Rattle.std.specs.List.Sorted.{IsPermutation}
use Rattle.std.proofs.lemmas.List.Sorted.{IsNonDecreasingBy-from_sort_by_key}
use Rattle.pb_election.specs.Instance.{all_voters}
use Rattle.pb_cohesion.specs.Inside.Counting.{with_got}
use Rattle.pb_cohesion.proofs.Order.{with_got-next}
use Rattle.pb_cohesion.proofs.Whole.{order-few, order-small}
use Rattle.pb_cohesion.proofs.short.order.voters_by_got.Goals as goal

pub loop-k-preserved : goal.loop-k-preserved
loop-k-preserved c =
    grind (arith, with_got-next c.args.measure c.args.election.now c.args.outcome.now.marks c.loop-k.k)

pub returns-clause-order : goal.returns-clause-order
returns-clause-order c =
    let all : c.loop-k.order.items ≡ with_got c.args.measure c.args.election.now c.args.outcome.now.marks (all_voters c.args.election.now) =
    c.loop-k.invariant
    ∙ ap (λ n. with_got c.args.measure c.args.election.now c.args.outcome.now.marks (range_with_len 1 n))
    (omega (arith, c.loop-k-test.false, c.loop-k.auto, c.voters-voters.ensures.value)) in
    record {
      all = subst (λ (from : List (ℕ × ℕ)). IsPermutation from c.sort_unstable_by_key.new.self.items) all c.sort_unstable_by_key.ensures.permutation;
      rising = IsNonDecreasingBy-from_sort_by_key (λ (one : ℕ × ℕ). one.0) _ c.sort_unstable_by_key.ensures.sorted (λ a r q k. search rules);
    }

pub returns-clause-few : goal.returns-clause-few
returns-clause-few c =
    order-few c.args.measure c.args.election.now c.args.outcome.now.marks c.sort_unstable_by_key.new.self.items
    (returns-clause-order c) c.voters-voters.ensures.sound

pub returns-clause-small : goal.returns-clause-small
returns-clause-small c =
    order-small c.args.measure c.args.election.now c.args.outcome.now.marks c.sort_unstable_by_key.new.self.items
    (returns-clause-order c) c.voters-voters.ensures.sound
