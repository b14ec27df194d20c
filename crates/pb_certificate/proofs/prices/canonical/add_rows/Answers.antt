use Rattle.std.proofs.Common.{arith}
use Rattle.pb_certificate.proofs.OnPrices.Canon.Written.{voter-written, voter_rows}
use Rattle.pb_certificate.proofs.prices.canonical.add_rows.Goals as goal

pub add_payments-requires : goal.add_payments-requires
add_payments-requires c = grind arith

pub loop-voter-preserved : goal.loop-voter-preserved
loop-voter-preserved c = grind (arith, voter-written, voter_rows)

pub returns-clause-text : goal.returns-clause-text
returns-clause-text c = grind arith

pub returns-in_ok-add_payments-clause-text : goal.returns-in_ok-add_payments-clause-text
returns-in_ok-add_payments-clause-text c = grind (arith, voter-written, voter_rows)
