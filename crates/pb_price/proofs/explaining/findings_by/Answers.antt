use Rattle.std.proofs.Common.{◌≡◌, ◌*◌, ◌^◌, ◌≤◌, sym, ◌∙◌, ap, subst, arith}
use Rattle.std.proofs.lemmas.Int.{ints}
use Rattle.std.proofs.lemmas.Nat.{mul-le}
use Rattle.pb_money.specs.Grains.{cost_grains}
use Rattle.pb_election.specs.Instance.{voters}
use Rattle.pb_cohesion.specs.Outcome.{total}
use Rattle.pb_price.specs.Inside.Tallies.{AreSums}
use Rattle.pb_price.proofs.Explained.{are-findings, are-on}
use Rattle.pb_price.proofs.Ranges.{grains-most}
use Rattle.pb_price.proofs.explaining.findings_by.Goals as goal

pub returns-clause-found : goal.returns-clause-found
returns-clause-found c = λ p is tally. (
    let limit_is : c.cost_grains-limit.result ≡ cost_grains c.args.election.now.limit c.args.denominator =
    c.cost_grains-limit.ensures ∙ ap (λ x. cost_grains x c.args.denominator) c.limit.ensures.value in
    let total_is : c.cost_of_funded.result * c.from.result
    ≡ cost_grains (total c.args.election.now c.args.outcome.now.marks) c.args.denominator =
    ap (λ x. x * c.from.result) c.cost_of_funded.ensures.value
    ∙ ap (λ x. total c.args.election.now c.args.outcome.now.marks * x) c.from.ensures in
    let limit_small : c.cost_grains-limit.result ≤ 10 ^ 27 =
    omega (
      arith,
      limit_is,
      grains-most c.args.election.now.limit c.args.denominator c.limit.ensures.sound.limit c.requires.high,
    ) in
    let total_small : c.cost_of_funded.result * c.from.result ≤ 20000 * 10 ^ 18 * 10 ^ 9 =
    mul-le c.cost_of_funded.result c.from.result (20000 * 10 ^ 18) (10 ^ 9) c.cost_of_funded.ensures.small
    (omega (arith, c.from.ensures, c.requires.high)) in
    let sums : AreSums c.args.election.now p c.deref.result.now =
    subst (λ xs. AreSums c.args.election.now p xs) (sym c.deref.ensures.value) tally.sums in
    let on = are-on c.args.election.now c.args.outcome.now.marks p c.args.denominator c.deref.result.now _
    c.project_findings-of_projects.result is c.requires.low sums
    (omega (arith, ints, limit_is, total_is, limit_small, total_small)) c.project_findings-of_projects.ensures.found in
    are-findings c.args.election.now c.args.outcome.now.marks p _
    (record {
      grains_per_unit = omega (arith, c.from-2.ensures, is);
      total = total_is ∙ ap (cost_grains (total c.args.election.now c.args.outcome.now.marks)) (sym is);
      limit = limit_is ∙ ap (cost_grains c.args.election.now.limit) (sym is);
      voter_budget = tally.budget;
      budgets = ap (λ n. n * c.args.tally.now.budget) (c.from-3.ensures ∙ c.voters.ensures.value)
          ∙ ap (λ n. voters c.args.election.now * n) tally.budget;
      c1 = tally.unapproved;
      c2 = tally.over_budget;
      on = on;
    })
    )
