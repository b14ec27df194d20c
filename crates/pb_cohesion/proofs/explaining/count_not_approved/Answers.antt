use Rattle.std.proofs.Common.{◌+◌, ◌-◌, ◌≤◌, filter, get_or, length, not, ◌∙◌, ap, arith}
use Rattle.std.specs.Prelude.{sum_by}
use Rattle.std.proofs.lemmas.List.{take_all}
use Rattle.std.proofs.lemmas.List.Sums.{sum_by_more}
use Rattle.pb_election.specs.Instance.{approves, voters}
use Rattle.pb_cohesion.proofs.Counted.{few-missing, pairs-are}
use Rattle.pb_cohesion.proofs.Loops.{set-at, set-length}
use Rattle.pb_cohesion.proofs.explaining.count_not_approved.Goals as goal

pub count_missing-count-requires-clause-voter : goal.count_missing-count-requires-clause-voter
count_missing-count-requires-clause-voter c = grind (arith, set-at)

pub overflow_add-count : goal.overflow_add-count
overflow_add-count c =
    let members : length c.args.group.now ≤ voters c.args.election.now + 1 - 1 =
    set-length 1 (voters c.args.election.now) c.args.group.now c.requires.group in
    let few : c.count_missing-count.result ≤ 20000 =
    few-missing c.args.election.now (get_or c.args.group.now c.loop-i.i-index 0) c.args.demand.now
    c.count_missing-count.result c.requires.sound c.requires.demand c.count_missing-count.ensures in
    omega (arith, c.loop-i.invariant.1, c.requires.sound.few_voters)

pub loop-i-preserved : goal.loop-i-preserved
loop-i-preserved c =
    let few : c.count_missing-count.result ≤ 20000 =
    few-missing c.args.election.now (get_or c.args.group.now c.loop-i.i-index 0) c.args.demand.now
    c.count_missing-count.result c.requires.sound c.requires.demand c.count_missing-count.ensures in
    let more = sum_by_more (λ i. length (filter (λ j. not (approves c.args.election.now i j)) c.args.demand.now))
    c.args.group.now c.loop-i.i-index 0 c.loop-i-test.true in
    (omega (arith, more, c.loop-i.invariant.0, c.count_missing-count.ensures), omega (arith, c.loop-i.invariant.1))

pub returns : goal.returns
returns c =
    c.loop-i.invariant.0
    ∙ ap (sum_by (λ i. length (filter (λ j. not (approves c.args.election.now i j)) c.args.demand.now)))
    (take_all c.loop-i.i-index c.args.group.now c.loop-i-test.false)
    ∙ pairs-are c.args.election.now c.args.group.now c.args.demand.now
