use Rattle.std.proofs.Common.{◌-◌, get_or, length, arith}
use Rattle.pb_price.proofs.Ballots.{high, low}
use Rattle.pb_price.proofs.Reached.{count-added, count-fits}
use Rattle.pb_price.proofs.nearest.count_ballot.Goals as goal

pub overflow_sub-counts : goal.overflow_sub-counts
overflow_sub-counts c =
    low (length c.args.counts.now) c.args.ballot.now c.loop-j.j-index c.requires.ballot c.loop-j-test.true

pub bounds-counts-j : goal.bounds-counts-j
bounds-counts-j c =
    let from = low (length c.args.counts.now) c.args.ballot.now c.loop-j.j-index c.requires.ballot c.loop-j-test.true in
    let to = high (length c.args.counts.now) c.args.ballot.now c.loop-j.j-index c.requires.ballot c.loop-j-test.true in
    omega (arith, from, to)

pub bounds-counts-j-in-loop-j : goal.bounds-counts-j-in-loop-j
bounds-counts-j-in-loop-j c =
    let from = low (length c.args.counts.now) c.args.ballot.now c.loop-j.j-index c.requires.ballot c.loop-j-test.true in
    let to = high (length c.args.counts.now) c.args.ballot.now c.loop-j.j-index c.requires.ballot c.loop-j-test.true in
    omega (arith, from, to)

pub overflow_add-counts : goal.overflow_add-counts
overflow_add-counts c =
    let same = count-fits c.args.counts.now c.loop-j.counts c.args.ballot.now c.loop-j.j-index c.requires.ballot
    c.loop-j-test.true c.loop-j.invariant in
    omega (arith, same, c.requires.few (get_or c.args.ballot.now c.loop-j.j-index 0 - 1))

pub loop-j-preserved : goal.loop-j-preserved
loop-j-preserved c =
    count-added c.args.counts.now c.loop-j.counts c.args.ballot.now c.loop-j.j-index c.requires.ballot
    c.loop-j-test.true c.loop-j.invariant
