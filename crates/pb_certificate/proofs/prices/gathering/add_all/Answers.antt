use Rattle.std.proofs.Common.{Option, subst}
use Rattle.std.specs.Prelude.{IfSome}
use Rattle.pb_certificate.specs.Prices.Rows.{GivesRow, given}
use Rattle.pb_certificate.specs.declared.prices.row.PriceRow.{PriceRow}
use Rattle.pb_certificate.proofs.OnPrices.GatherSteps.{gathers-all, gathers-none, gathers-row}
use Rattle.pb_certificate.proofs.prices.gathering.add_all.Goals as goal

pub gather-init : goal.gather-init
gather-init g c =
    gathers-none (g.L.PaymentSink.Has c.args.sink.now) c.args.rows c.args.turn.now c.requires.none c.requires.holds
    c.requires.done

pub returns-in_default-clause-all : goal.returns-in_default-clause-all
returns-in_default-clause-all g c =
    gathers-all (g.L.PaymentSink.Has c.gather.sink) c.args.rows c.gather.rows c.in_ok-behind.behind c.gather.turn
    c.gather.invariant (c.in_ok-behind.ensures.none c.in_default.is)

pub gather-preserved : goal.gather-preserved
gather-preserved g c =
    let s = c.gather.rows in
    let row = subst (λ (o : Option PriceRow). IfSome o (λ q. GivesRow s c.in_ok-behind.behind q)) c.in-Some.is
    c.in_ok-behind.ensures.row in
    gathers-row (g.L.PaymentSink.Has c.gather.sink) (g.L.PaymentSink.Has c.add.new.sink) c.args.rows s c.in_ok-behind.behind
    c.gather.turn c.add.new.self c.in-Some.row c.gather.invariant row
    (λ high fresh few. c.in_ok-add.ensures.holds s (given s) c.gather.invariant.holds high fresh few) c.in_ok-add.ensures.done
