use Rattle.std.proofs.Common.{◌≡◌, ◌+◌, arith, refl}
use Rattle.pb_certificate.specs.Prices.RowFaults.{as_payment}
use Rattle.pb_certificate.proofs.OnPrices.TurnSteps.{row-of-none, row-of-some}
use Rattle.pb_certificate.proofs.prices.gathering.Turn.add.Goals as goal

pub returns-in_ok-push-clause-holds : goal.returns-in_ok-push-clause-holds
returns-in_ok-push-clause-holds g c = λ projects qs h high fresh few. (
    let turn = c.close_up_to.new.self in
    let at : c.args.row.voter ≡ turn.done + 1 = omega (arith, c.in_ok-close_up_to.ensures.done, c.requires.voter) in
    row-of-some (g.L.PaymentSink.Has c.close_up_to.new.sink) projects qs (as_payment c.args.row) turn _
    (c.in_ok-close_up_to.ensures.holds projects qs h) at fresh c.requires.project high c.requires.small few
    c.if-row-gt0.true refl c.in_ok-push.ensures.items
    )

pub returns-else-row-gt0-clause-holds : goal.returns-else-row-gt0-clause-holds
returns-else-row-gt0-clause-holds g c = λ projects qs h high fresh few. (
    let turn = c.close_up_to.new.self in
    let at : c.args.row.voter ≡ turn.done + 1 = omega (arith, c.in_ok-close_up_to.ensures.done, c.requires.voter) in
    row-of-none (g.L.PaymentSink.Has c.close_up_to.new.sink) projects qs (as_payment c.args.row) turn
    (c.in_ok-close_up_to.ensures.holds projects qs h) at fresh c.requires.project high c.requires.small few
    c.if-row-gt0.false
    )
