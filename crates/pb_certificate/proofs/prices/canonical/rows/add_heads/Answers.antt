use Rattle.std.proofs.Common.{arith}
use Rattle.pb_records.specs.Inside.RecordWriter.{held}
use Rattle.pb_certificate.proofs.OnPrices.Canon.Written.{heads-written}
use Rattle.pb_certificate.proofs.prices.canonical.rows.add_heads.Goals as goal

pub returns-clause-text : goal.returns-clause-text
returns-clause-text c =
    heads-written c.args.denominator c.args.budget (held c.args.writer.now) (held c.add_pair.new.writer)
    (held c.add_pair-2.new.writer) (held c.add_pair-3.new.writer)
    (held c.add_triple.new.writer) (omega arith) (omega arith) c.in_ok-add_pair.ensures.text
    (rw c.format.ensures.text at c.in_ok-add_pair-2.ensures.text)
    (rw c.format-2.ensures.text at c.in_ok-add_pair-3.ensures.text) c.in_ok-add_triple.ensures.text
