use Rattle.std.proofs.Common.{◌∙◌, ap, arith}
use Rattle.pb_cohesion.specs.ViolationFindings.{violation_findings}
use Rattle.pb_cohesion.proofs.Counted.{findings-are}
use Rattle.pb_cohesion.proofs.Loops.{set-length}
use Rattle.pb_cohesion.proofs.explaining.violation_findings.Goals as goal

pub overflow_cast-result : goal.overflow_cast-result
overflow_cast-result g c = grind (arith, set-length)

pub returns-clause-value : goal.returns-clause-value
returns-clause-value g c =
    let meaning = g.S.Satisfaction.meaning c.args.satisfaction.now c.args.election.now in
    let marks = c.args.outcome.now.marks in
    findings-are meaning c.args.election.now marks c.group-group.result.now c.demand-demand.result.now
    c.cost_of_all.result c.first_not_approved.result c.count_not_approved.result c.worth_of_all-demanded.result
    c.satisfied_members-gets.result.0 c.satisfied_members-gets.result.1
    c.cost_of_all.ensures.value c.first_not_approved.ensures c.count_not_approved.ensures
    c.worth_of_all-demanded.ensures.value c.satisfied_members-gets.ensures.members
    c.satisfied_members-gets.ensures.shown
    ∙ ap (λ s. violation_findings meaning c.args.election.now marks s c.demand-demand.result.now)
    c.group-group.ensures.value
    ∙ ap (violation_findings meaning c.args.election.now marks c.args.violation.now.group) c.demand-demand.ensures.value

pub returns-clause-small : goal.returns-clause-small
returns-clause-small g c = grind (arith, set-length)
