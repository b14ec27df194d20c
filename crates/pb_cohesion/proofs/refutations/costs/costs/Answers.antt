use Rattle.std.proofs.Common.{arith}
use Rattle.pb_cohesion.specs.RefutationFindings.{paid_at_least, paid_or_left_at_most}
use Rattle.pb_cohesion.proofs.Loops.{sum-next}
use Rattle.pb_cohesion.proofs.Weights.{at_least-is, at_most-is}
use Rattle.pb_cohesion.proofs.refutations.costs.costs.Goals as goal

pub loop-k-preserved : goal.loop-k-preserved
loop-k-preserved c =
    let e = c.args.election.now in
    let w = c.args.outcome.now.marks in
    let r = c.args.refutation.now in
    record {
      least = omega (arith, sum-next (paid_at_least e w r) c.loop-k.k);
      most = omega (arith, sum-next (paid_or_left_at_most e w r) c.loop-k.k);
      small_least = omega arith;
      small_most = omega arith;
    }

pub returns-clause-least : goal.returns-clause-least
returns-clause-least c = grind (arith, at_least-is)

pub returns-clause-most : goal.returns-clause-most
returns-clause-most c = grind (arith, at_most-is)
