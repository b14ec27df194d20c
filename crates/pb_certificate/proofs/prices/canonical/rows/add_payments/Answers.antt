use Rattle.std.proofs.Common.{arith}
use Rattle.pb_records.specs.Inside.RecordWriter.{held}
use Rattle.pb_certificate.proofs.OnPrices.Canon.Written.{payment-at, row-written, rows-written}
use Rattle.pb_certificate.proofs.prices.canonical.rows.add_payments.Goals as goal

pub id-requires : goal.id-requires
id-requires c = grind (arith, payment-at)

pub loop-payment-preserved : goal.loop-payment-preserved
loop-payment-preserved c = grind (arith, row-written)

pub returns-clause-text : goal.returns-clause-text
returns-clause-text c =
    rows-written c.args.election.now c.args.voter c.args.payments.now c.loop-payment.payment-index
    (held c.args.writer.now) (held c.loop-payment.writer) c.loop-payment-test.false c.loop-payment.invariant.text
