use Rattle.pb_cohesion.specs.Satisfactions.{worth_by}
use Rattle.pb_cohesion.proofs.Ballots.{worth-is}
use Rattle.pb_cohesion.proofs.short.order.got_by.Goals as goal

pub returns : goal.returns
returns c =
    worth-is (worth_by c.args.measure c.args.election.now) c.args.election.now c.args.outcome.now.marks c.args.i
    c.ballot.result.now c.worth_of_funded.result c.ballot.ensures.value c.ballot.ensures.rising
    c.worth_of_funded.ensures.value
