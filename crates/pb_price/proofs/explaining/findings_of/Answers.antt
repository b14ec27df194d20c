use Rattle.std.proofs.Common.{arith}
use Rattle.pb_certificate.specs.Faults.{certificate_records}
use Rattle.pb_price.proofs.Certificates.{of-any, only-memory}
use Rattle.pb_price.proofs.explaining.findings_of.Goals as goal

pub findings_by-requires : goal.findings_by-requires
findings_by-requires c = grind arith

pub returns : goal.returns
returns c =
    let t = c.in_ok-taken.ensures.taken in
    let told = c.findings_by.ensures.found t.prices t.denominator t.tally in
    record { found = (t.prices, t.text, told); refused = tt; only = of-any _ t told }

pub returns-in_err-taken-clause-only : goal.returns-in_err-taken-clause-only
returns-in_err-taken-clause-only c = λ p text.
    rw (only-memory (certificate_records c.args.bytes.now) c.args.election.now p c.in_err-taken.field-0.0
    c.from_residual.result c.from_residual.ensures.1 text c.in_err-taken.ensures.refused)
