use Rattle.std.proofs.Common.{◌<◌, get_or, length, sym, ap, subst, arith}
use Rattle.pb_certificate.specs.Prices.{IsPaymentMap, payments_of}
use Rattle.pb_price.specs.Inside.Tallies.{TakesRow, Tallied}
use Rattle.pb_price.proofs.Payments.{can-take, row_of, takes-next, took-next, took-voter, with_next}
use Rattle.pb_price.proofs.tallying.take_payments_of.Goals as goal

pub take-requires : goal.take-requires
take-requires c = grind (arith, row_of, get_or, can-take)

pub loop-project-preserved : goal.loop-project-preserved
loop-project-preserved c =
    let map_is =
    subst (λ qs. IsPaymentMap c.args.prices.now.projects qs) c.payments_of-payments.ensures.value
    c.payments_of-payments.ensures.map in
    let within : c.loop-project.project-index < length (payments_of c.args.prices.now c.args.i) =
    omega (arith, c.loop-project-test.true, ap length c.payments_of-payments.ensures.value) in
    let row_is =
    ap (λ qs. row_of c.args.i (get_or qs c.loop-project.project-index (0, 0)))
    c.payments_of-payments.ensures.value in
    let taken : Tallied c.args.election.now
    (with_next c.args.prices.now c.args.i c.loop-project.project-index c.loop-project.invariant.taken)
    c.take.new.self =
    c.take.ensures.taken c.loop-project.invariant.taken
    (with_next c.args.prices.now c.args.i c.loop-project.project-index c.loop-project.invariant.taken)
    c.loop-project.invariant.tallied
    (subst
    (λ q. TakesRow c.loop-project.invariant.taken
    (with_next c.args.prices.now c.args.i c.loop-project.project-index c.loop-project.invariant.taken) q)
    (sym row_is)
    (takes-next c.args.election.now c.args.prices.now c.args.i c.loop-project.project-index (0, 0) c.loop-project.so_far
    c.loop-project.invariant map_is within)) in
    took-next c.args.election.now c.args.prices.now c.args.i c.loop-project.project-index (0, 0) c.loop-project.so_far
    c.take.new.self c.loop-project.invariant taken c.take.ensures.closed

pub returns : goal.returns
returns c =
    took-voter c.args.election.now c.args.prices.now c.args.i c.loop-project.project-index c.loop-project.so_far
    c.loop-project.invariant c.requires.voter c.requires.prices
    (subst (λ qs. IsPaymentMap c.args.prices.now.projects qs) c.payments_of-payments.ensures.value
    c.payments_of-payments.ensures.map)
    (omega (
      arith,
      c.loop-project-test.false,
      c.loop-project.auto.project-index-end,
      ap length c.payments_of-payments.ensures.value,
    ))
