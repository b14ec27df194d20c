use Rattle.std.proofs.Common.{length, drop}
use Rattle.pb_certificate.proofs.OnPrices.GatherSteps.{Gathers}
use Rattle.pb_certificate.proofs.prices.gathering.add_all.Given as goal

abbrev pub invariant-gather : goal.invariant-gather
invariant-gather g l = Gathers (g.L.PaymentSink.Has l.sink) l.fn.rows l.rows l.turn

abbrev pub decreases-gather : goal.decreases-gather
decreases-gather g l = length (drop l.rows.record_number l.rows.records)
