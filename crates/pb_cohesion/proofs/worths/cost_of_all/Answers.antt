use Rattle.pb_election.specs.Instance.{projects}
use Rattle.pb_cohesion.proofs.Loops.{set-at}
use Rattle.pb_cohesion.proofs.worths.cost_of_all.Goals as goal

pub cost-requires : goal.cost-requires
cost-requires c =
    set-at 1 (projects c.args.election.now) c.args.projects.now c.loop-j.j-index c.requires c.loop-j-test.true
