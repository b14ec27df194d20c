use Rattle.std.proofs.Common.{arith, length, rules}
use Rattle.std.proofs.lemmas.Slice.Zip.{zip_end}
use Rattle.pb_election.proofs.Totals.{cost_of_marked-end, either_end}
use Rattle.pb_election.proofs.outcome.cost_of_marked.Goals as goal

pub returns-clause-value : goal.returns-clause-value
returns-clause-value c =
    let whole = zip_end c.args.marks.now c.args.costs.now c.loop-marked.yielded c.into_iter-marked-iterator.result
    c.loop-marked.marked-iterator c.next.new.self c.next.result (search rules) (search rules)
    c.loop-marked.yielded_by c.in-None.is c.next.ensures.steps in
    let rest = cost_of_marked-end c.args.marks.now c.args.costs.now (length c.loop-marked.yielded)
    (either_end _ _ _ whole) in
    omega (arith, c.loop-marked.invariant.0, rest)
