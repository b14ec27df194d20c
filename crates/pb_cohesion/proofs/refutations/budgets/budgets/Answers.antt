use Rattle.std.proofs.Common.{◌+◌, arith}
use Rattle.pb_cohesion.specs.Refutations.{gain, missed}
use Rattle.pb_cohesion.proofs.Loops.{set-length, sum-next}
use Rattle.pb_cohesion.proofs.Refuting.{taken-budgets}
use Rattle.pb_cohesion.proofs.Weights.{counted-is, left-is}
use Rattle.pb_cohesion.proofs.refutations.budgets.budgets.Goals as goal

pub taken_left-left-requires-clause-few : goal.taken_left-left-requires-clause-few
taken_left-left-requires-clause-few c = grind (arith, set-length)

pub loop-k-preserved : goal.loop-k-preserved
loop-k-preserved c =
    let e = c.args.election.now in
    let w = c.args.outcome.now.marks in
    let r = c.args.refutation.now in
    let left = left-is e w r (c.loop-k.k + 1) c.ballot-ballot.result.now c.taken_left-left.result
    c.ballot-ballot.ensures.value c.ballot-ballot.ensures.rising c.taken_left-left.ensures.value in
    let most = counted-is e w r (c.loop-k.k + 1) c.ballot-ballot.result.now c.most_counted.result
    c.taken_left-left.result c.ballot-ballot.ensures.value c.ballot-ballot.ensures.rising
    c.most_counted.ensures.value left in
    record {
      counted = omega (arith, most, sum-next (gain e w r) c.loop-k.k);
      taken = omega (arith, left, sum-next (missed e w r) c.loop-k.k);
      small_counted = omega arith;
      small_taken = omega arith;
    }

pub returns-clause-taken : goal.returns-clause-taken
returns-clause-taken c = grind (arith, taken-budgets)
