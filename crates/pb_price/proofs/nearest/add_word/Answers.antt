use Rattle.std.proofs.Common.{length, arith}
use Rattle.pb_price.proofs.Ballots.{high, low}
use Rattle.pb_price.proofs.Reached.{word-added}
use Rattle.pb_price.proofs.nearest.add_word.Goals as goal

pub overflow_sub-words : goal.overflow_sub-words
overflow_sub-words c =
    low (length c.args.words.now) c.args.ballot.now c.loop-j.j-index c.requires c.loop-j-test.true

pub bounds-words-j : goal.bounds-words-j
bounds-words-j c =
    let from = low (length c.args.words.now) c.args.ballot.now c.loop-j.j-index c.requires c.loop-j-test.true in
    let to = high (length c.args.words.now) c.args.ballot.now c.loop-j.j-index c.requires c.loop-j-test.true in
    omega (arith, from, to)

pub bounds-words-j-in-loop-j : goal.bounds-words-j-in-loop-j
bounds-words-j-in-loop-j c =
    let from = low (length c.args.words.now) c.args.ballot.now c.loop-j.j-index c.requires c.loop-j-test.true in
    let to = high (length c.args.words.now) c.args.ballot.now c.loop-j.j-index c.requires c.loop-j-test.true in
    omega (arith, from, to)

pub loop-j-preserved : goal.loop-j-preserved
loop-j-preserved c =
    word-added c.args.word c.args.words.now c.loop-j.words c.args.ballot.now c.loop-j.j-index c.requires
    c.loop-j-test.true c.loop-j.invariant
