use Rattle.std.proofs.Common.{true, false, get_or, sym, ◌∙◌, arith}
use Rattle.pb_election.specs.Instance.{projects}
use Rattle.pb_election.proofs.Sets.{is_ok-searched}
use Rattle.pb_cohesion.proofs.Counted.{common-more, missing-is}
use Rattle.pb_cohesion.proofs.explaining.count_missing.Goals as goal
use Rattle.pb_cohesion.proofs.explaining.count_missing.Goals.{then-is_ok, else-is_ok}

pub loop-j-preserved : goal.loop-j-preserved
loop-j-preserved c =
    let here = c.is_ok.ensures.value
    ∙ is_ok-searched 1 (projects c.args.election.now) c.args.demand.now c.requires.demand
    (get_or c.ballot-j-items.result.now c.loop-j.j-index 0) c.binary_search.result
    c.binary_search.ensures.position in
    elim c.if-is_ok.branch [
      | then-is_ok w ↦
          common-more c.args.demand.now c.ballot-j-items.result.now c.loop-j.j-index c.loop-j.approved
          c.if-is_ok.approved true c.loop-j.invariant c.loop-j-test.true (sym here ∙ w.if-is_ok.true) w.approved-is
      | else-is_ok w ↦
          common-more c.args.demand.now c.ballot-j-items.result.now c.loop-j.j-index c.loop-j.approved
          c.if-is_ok.approved false c.loop-j.invariant c.loop-j-test.true (sym here ∙ w.if-is_ok.false)
          (w.approved-is ∙ (omega arith))
    ]

pub overflow_sub-result : goal.overflow_sub-result
overflow_sub-result c =
    omega (
      arith,
      missing-is c.args.election.now c.args.i c.ballot-j-items.result.now c.args.demand.now
          c.loop-j.approved c.loop-j.j-index c.ballot-j-items.ensures.value c.ballot-j-items.ensures.rising
          c.requires.demand c.loop-j.invariant c.loop-j-test.false,
    )

pub returns : goal.returns
returns c =
    omega (
      arith,
      missing-is c.args.election.now c.args.i c.ballot-j-items.result.now c.args.demand.now
          c.loop-j.approved c.loop-j.j-index c.ballot-j-items.ensures.value c.ballot-j-items.ensures.rising
          c.requires.demand c.loop-j.invariant c.loop-j-test.false,
    )
