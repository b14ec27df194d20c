use Rattle.std.proofs.Common.{◌≡◌, ◌+◌, ◌^◌, ◌≤◌, get_or, pos, refl, sym, ◌∙◌, ap, subst, arith, rules, to_z-of_z, to_z, of_z}
use Rattle.std.specs.Int.{w128}
use Rattle.pb_money.specs.Grains.{cost_grains}
use Rattle.pb_election.specs.Instance.{IsProject, cost_of}
use Rattle.pb_price.specs.Inside.Looked.{AreSmallFindings}
use Rattle.pb_price.specs.Inside.Tallies.{AreInRange, IsWithin}
use Rattle.pb_price.proofs.Ballots.{nothing}
use Rattle.pb_price.proofs.Looking.{cost-in-range, found-none, funded-then, paid-in-range, small-funded, small-none, small-unfunded, sums-in-range, unfunded-then}
use Rattle.pb_price.proofs.explaining.project_findings.Goals as goal
use Rattle.pb_price.proofs.explaining.project_findings.Goals.{then-has, else-has}

pub loop-k-init : goal.loop-k-init
loop-k-init c = record { found = found-none _ _ _ _ _; small = small-none; steps = omega arith }

pub loop-k-preserved : goal.loop-k-preserved
loop-k-preserved c =
    let ip : IsProject c.args.election.now (c.loop-k.k + 1) =
    (omega arith, omega (arith, c.loop-k-test.true, c.loop-k.auto.k-end, c.projects-k-end.ensures.value)) in
    let cost_is : c.cost_grains-cost.result
    ≡ cost_grains (cost_of c.args.election.now (c.loop-k.k + 1)) c.args.denominator =
    c.cost_grains-cost.ensures ∙ ap (λ x. cost_grains x c.args.denominator) c.cost.ensures in
    let cost_small : c.cost_grains-cost.result ≤ 10 ^ 34 =
    cost-in-range c.args.election.now c.args.denominator (c.loop-k.k + 1) c.cost_grains-cost.result
    c.projects-k-end.ensures.sound c.requires.high ip cost_is in
    let sums_small : AreInRange (get_or c.args.sums.now c.loop-k.k nothing) =
    sums-in-range c.args.election.now c.args.sums.now c.loop-k.k c.requires.small ip in
    let paid_small : IsWithin (10 ^ 38) (pos (get_or c.args.sums.now c.loop-k.k nothing).paid) =
    paid-in-range (get_or c.args.sums.now c.loop-k.k nothing) sums_small in
    let fits : to_z w128 (of_z w128 c.args.remaining) ≡ c.args.remaining = search (rules, to_z-of_z) in
    elim c.if-has.branch [
      | then-has w ↦
          record {
            found =
                funded-then _ _ _ _ _ _ _ _ _ _ c.loop-k.invariant.found (sym c.has.ensures ∙ w.if-has.true) cost_is
                refl (w.findings-is ∙ w.look_at_funded.ensures);
            small =
                subst (AreSmallFindings (c.loop-k.k + 1)) (sym (w.findings-is ∙ w.look_at_funded.ensures))
                (small-funded c.loop-k.k _ _ (c.loop-k.k + 1) c.loop-k.findings
                (record { bound = cost_small; amount = paid_small }) c.loop-k.invariant.small);
            steps = omega (arith, c.loop-k.invariant.steps);
          }
      | else-has w ↦
          record {
            found =
                unfunded-then _ _ _ _ _ _ _ _ _ _ c.loop-k.invariant.found (sym c.has.ensures ∙ w.if-has.false) cost_is
                refl (w.findings-is ∙ w.look_at_unfunded.ensures);
            small =
                subst (AreSmallFindings (c.loop-k.k + 1)) (sym (w.findings-is ∙ w.look_at_unfunded.ensures))
                (small-unfunded c.loop-k.k (c.loop-k.k + 1) _ _ _ c.loop-k.findings cost_small
                (subst (IsWithin (10 ^ 38)) (sym fits) c.requires.remaining) paid_small sums_small
                c.loop-k.invariant.small);
            steps = omega (arith, c.loop-k.invariant.steps);
          }
    ]

pub returns-clause-found : goal.returns-clause-found
returns-clause-found c = grind arith
