use Rattle.std.proofs.Common.{◌+◌, arith}
use Rattle.pb_cohesion.specs.Refutations.{stable_gain}
use Rattle.pb_cohesion.proofs.Loops.{set-length, sum-next}
use Rattle.pb_cohesion.proofs.Weights.{left-is, stable-counted-is}
use Rattle.pb_cohesion.proofs.refutations.stable_budgets.stable_budgets.Goals as goal

pub taken_left-left-requires-clause-few : goal.taken_left-left-requires-clause-few
taken_left-left-requires-clause-few c = grind (arith, set-length)

pub stable_counted-requires-clause-short : goal.stable_counted-requires-clause-short
stable_counted-requires-clause-short c = grind (arith, set-length)

pub loop-k-preserved : goal.loop-k-preserved
loop-k-preserved c =
    let e = c.args.election.now in
    let w = c.args.outcome.now.marks in
    let r = c.args.refutation.now in
    let left = left-is e w r (c.loop-k.k + 1) c.ballot-ballot.result.now c.taken_left-left.result
    c.ballot-ballot.ensures.value c.ballot-ballot.ensures.rising c.taken_left-left.ensures.value in
    let most = stable-counted-is e w r (c.loop-k.k + 1) c.ballot-ballot.result.now c.stable_counted.result
    c.taken_left-left.result c.ballot-ballot.ensures.value c.ballot-ballot.ensures.rising
    c.stable_counted.ensures.value left in
    record {
      counted = omega (arith, most, sum-next (stable_gain e w r) c.loop-k.k);
      small = omega arith;
    }
