use Rattle.std.proofs.Common.{arith}
use Rattle.pb_certificate.specs.Faults.{certificate_records}
use Rattle.pb_price.proofs.Certificates.{of-any, only-memory}
use Rattle.pb_price.proofs.figures.findings_and_margins_of.Goals as goal

pub margins_in-requires : goal.margins_in-requires
margins_in-requires c = grind arith

pub findings_by-findings-requires : goal.findings_by-findings-requires
findings_by-findings-requires c = grind arith

pub returns-clause-only : goal.returns-clause-only
returns-clause-only c =
    let t = c.in_ok-taken.ensures.taken in
    of-any _ t (
      c.findings_by-findings.ensures.found t.prices t.denominator t.tally,
      c.in_ok-margins.ensures.found t.prices t.denominator t.tally,
    )

pub returns-in_err-taken-clause-only : goal.returns-in_err-taken-clause-only
returns-in_err-taken-clause-only c = λ p text.
    rw (only-memory (certificate_records c.args.bytes.now) c.args.election.now p c.in_err-taken.field-0.0
    c.from_residual.result c.from_residual.ensures.1 text c.in_err-taken.ensures.refused)
