use Rattle.std.proofs.Common.{◌≤◌, ◌-◌, List}
use Rattle.pb_certificate.specs.Inside.Prices.Gathering.{HoldSome, Holds}
use Rattle.pb_certificate.specs.Prices.Text.{Payment}
use Rattle.pb_certificate.specs.Prices.Rows.{Rows}
use Rattle.pb_certificate.proofs.prices.gathering.Turn.close_up_to.Given as goal

abbrev pub invariant-loop-self : goal.invariant-loop-self
invariant-loop-self g l =
    record {
      some : HoldSome (g.L.PaymentSink.Has l.sink) l.self;
      holds : (s : Rows) (qs : List Payment) → Holds (g.L.PaymentSink.Has l.initial.sink) s qs l.initial.self
          → Holds (g.L.PaymentSink.Has l.sink) s qs l.self;
      within : l.self.done ≤ l.voters;
    }

abbrev pub decreases-loop-self : goal.decreases-loop-self
decreases-loop-self g l = l.voters - l.self.done
