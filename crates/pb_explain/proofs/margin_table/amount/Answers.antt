use Rattle.std.proofs.Common.{arith}
use Rattle.pb_certificate.proofs.OnPrices.Canon.Lines.{decimal-plain}
use Rattle.pb_explain.proofs.margin_table.amount.Goals as goal

pub returns : goal.returns
returns c = grind (arith, decimal-plain)
