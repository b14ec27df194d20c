use Rattle.std.proofs.Common.{refl, arith, rules, to_z-of_z}
use Rattle.std.proofs.lemmas.Int.{ints}
use Rattle.pb_price.proofs.Reading.{figures-next}
use Rattle.pb_price.proofs.figures.margins_by.Goals as goal

pub loop-k-preserved : goal.loop-k-preserved
loop-k-preserved c =
    figures-next c.args.election.now c.args.outcome.now.marks c.args.denominator c.args.sums.now c.loop-k.k
    c.loop-k.margins.items c.push.new.self.items _ c.in_ok-push.ensures.items c.loop-k.invariant
    c.has.ensures refl
    (first_of
    (grind (arith, c.cost_grains.ensures, c.cost.ensures), search (rules, c.cost_grains.ensures, c.cost.ensures)))
    refl (first_of (search (rules, to_z-of_z), omega (arith, ints), grind (arith, to_z-of_z)))
    (first_of (search (rules, to_z-of_z), omega (arith, ints), grind (arith, to_z-of_z)))

pub returns : goal.returns
returns c = grind arith
