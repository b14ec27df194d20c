use Rattle.pb_records.proofs.PlainLines.{no-mark}
use Rattle.pb_records.proofs.records.Records.take_triple.Goals as goal

pub invariant_of-self : goal.invariant_of-self
invariant_of-self c = no-mark c.in_ok-triple.rest.now c.in_ok-triple.ensures.line.at_end
