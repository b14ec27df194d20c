use Rattle.std.proofs.Common.{length, arith}
use Rattle.pb_price.specs.Inside.Tallies.{marked_with}
use Rattle.pb_price.proofs.Ballots.{change-next, high, low}
use Rattle.pb_price.proofs.tally.mark.Goals as goal

pub overflow_sub-projects : goal.overflow_sub-projects
overflow_sub-projects c =
    low (length c.args.projects.now) c.args.ballot.now c.loop-j.j-index c.requires c.loop-j-test.true

pub loop-j-preserved : goal.loop-j-preserved
loop-j-preserved c =
    change-next (marked_with c.args.voter) c.args.projects.now c.loop-j.projects c.args.ballot.now c.loop-j.j-index
    c.requires c.loop-j-test.true c.loop-j.invariant

pub bounds-projects-j : goal.bounds-projects-j
bounds-projects-j c =
    let from = low (length c.args.projects.now) c.args.ballot.now c.loop-j.j-index c.requires c.loop-j-test.true in
    let to = high (length c.args.projects.now) c.args.ballot.now c.loop-j.j-index c.requires c.loop-j-test.true in
    omega (arith, from, to)
