use Rattle.std.proofs.Common.{◌≡◌, ◌∙◌, ◌+◌, ◌-◌, ◌/◌, ℕ, true, filter, subst, sym, arith}
use Rattle.pb_election.specs.Outcome.{has}
use Rattle.pb_cohesion.specs.Amounts.{largest_by}
use Rattle.pb_cohesion.specs.Refutations.{counts, is_made_up, positive_part}
use Rattle.pb_cohesion.proofs.Least.{least-found, made-up-at-most, not-made-up-below}
use Rattle.pb_cohesion.proofs.refutations.stable_budgets.stable_counted.Goals as goal

pub loop-low-init : goal.loop-low-init
loop-low-init c =
    let r = c.args.refutation.now in
    let z = c.args.left in
    let cs = filter (has c.args.outcome.now.marks) c.args.ballot.now in
    record {
      ordered = omega arith;
      small = omega (arith, c.most_counted-high.ensures.small);
      made_up =
          subst (λ (x : ℕ). is_made_up r z cs x ≡ true) (sym c.most_counted-high.ensures.value)
          (made-up-at-most r z cs);
      none_below = λ x low. absurd (omega arith);
    }

pub loop-low-preserved : goal.loop-low-preserved
loop-low-preserved c =
    let r = c.args.refutation.now in
    let z = c.args.left in
    let cs = filter (has c.args.outcome.now.marks) c.args.ballot.now in
    let middle : ℕ = c.loop-low.low + (c.loop-low.high - c.loop-low.low) / 2 in
    record {
      ordered = omega arith;
      small = c.loop-low.invariant.small;
      made_up = c.loop-low.invariant.made_up;
      none_below = λ x low.
          not-made-up-below r z cs x middle (omega arith) (sym c.is_made_up.ensures ∙ c.if-is_made_up.false);
    }

pub returns-clause-value : goal.returns-clause-value
returns-clause-value c =
    let r = c.args.refutation.now in
    let z = c.args.left in
    let cs = filter (has c.args.outcome.now.marks) c.args.ballot.now in
    least-found (largest_by (λ j. positive_part (counts r z j)) cs) (is_made_up r z cs) c.loop-low.high
    (made-up-at-most r z cs) c.loop-low.invariant.made_up
    (λ y low. c.loop-low.invariant.none_below y (omega (arith, c.loop-low-test.false)))
