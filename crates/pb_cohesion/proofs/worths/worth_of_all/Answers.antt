use Rattle.pb_election.specs.Instance.{projects}
use Rattle.pb_cohesion.proofs.Loops.{set-at}
use Rattle.pb_cohesion.proofs.worths.worth_of_all.Goals as goal

pub worth-total-requires : goal.worth-total-requires
worth-total-requires g c =
    set-at 1 (projects c.args.election.now) c.args.projects.now c.loop-j.j-index c.requires c.loop-j-test.true
