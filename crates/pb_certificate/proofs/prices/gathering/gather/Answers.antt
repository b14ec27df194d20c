use Rattle.std.proofs.Common.{refl}
use Rattle.pb_certificate.proofs.OnPrices.GatherSteps.{all-gathered}
use Rattle.pb_certificate.proofs.OnPrices.TurnSteps.{no-rows}
use Rattle.pb_certificate.proofs.prices.gathering.gather.Goals as goal

pub add_all-requires-clause-holds : goal.add_all-requires-clause-holds
add_all-requires-clause-holds g c =
    no-rows (g.L.PaymentSink.Has c.args.sink.now) c.args.rows _ c.requires.empty refl c.new.ensures.items

pub returns-clause-all : goal.returns-clause-all
returns-clause-all g c =
    all-gathered (g.L.PaymentSink.Has c.add_all.new.sink) (g.L.PaymentSink.Has c.close_up_to.new.sink) c.args.rows
    c.add_all.new.turn c.close_up_to.new.self c.args.voters c.in_ok-add_all.ensures.all c.in_ok-close_up_to.ensures.holds
    c.in_ok-close_up_to.ensures.done c.requires.voters
