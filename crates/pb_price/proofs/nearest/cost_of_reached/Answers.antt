use Rattle.std.proofs.Common.{false, true, refl, sym, ◌∙◌, arith}
use Rattle.pb_cohesion.proofs.Loops.{sum-failing, sum-passing}
use Rattle.pb_price.proofs.Reached.{bit-of-next}
use Rattle.pb_price.proofs.nearest.cost_of_reached.Goals as goal
use Rattle.pb_price.proofs.nearest.cost_of_reached.Goals.{then-has+then-has_bit, else-has, else-has-via-then-has+else-has_bit, else-has-via-else-has}

pub loop-k-preserved : goal.loop-k-preserved
loop-k-preserved c =
    elim c.if-has.branch [
      | then-has+then-has_bit w ↦
          (let next = bit-of-next c.args.outcome.now.marks c.args.words.now c.args.place c.loop-k.k true true
          (sym c.has.ensures ∙ w.if-has.true) (sym w.has_bit.ensures ∙ w.if-has_bit.true) in
          grind (arith, sum-passing, next))
      | else-has w ↦
          elim w.else-has.branch [
            | else-has-via-then-has+else-has_bit w' ↦
                (let next = bit-of-next c.args.outcome.now.marks c.args.words.now c.args.place c.loop-k.k true false
                (sym c.has.ensures ∙ w'.if-has.true) (sym w'.has_bit.ensures ∙ w'.if-has_bit.false) in
                grind (arith, sum-failing, next))
            | else-has-via-else-has w' ↦
                (let next = bit-of-next c.args.outcome.now.marks c.args.words.now c.args.place c.loop-k.k false _
                (sym c.has.ensures ∙ w'.if-has.false) refl in
                grind (arith, sum-failing, next))
          ]
    ]
