use Rattle.pb_certificate.specs.Faults.{certificate_records}
use Rattle.pb_price.proofs.Certificates.{of-any, only-memory}
use Rattle.pb_price.proofs.Reading.{margins-or-memory}
use Rattle.pb_price.proofs.figures.margins_of.Goals as goal

pub margins_in-requires : goal.margins_in-requires
margins_in-requires c =
    let t = c.in_ok-taken.ensures.taken in
    record { outcome = c.requires; low = t.low; high = t.high; sums = t.tally.sums.as_many }

pub returns-clause-only : goal.returns-clause-only
returns-clause-only c =
    let t = c.in_ok-taken.ensures.taken in
    of-any _ t
    (margins-or-memory c.args.election.now c.args.outcome.now.marks t.prices c.in_ok-taken.taken.denominator
    c.in_ok-taken.taken.tally c.margins_in.result t.denominator t.tally c.margins_in.ensures.found
    c.margins_in.ensures.memory)

pub returns-in_err-taken-clause-only : goal.returns-in_err-taken-clause-only
returns-in_err-taken-clause-only c = λ p text.
    rw (only-memory (certificate_records c.args.bytes.now) c.args.election.now p c.in_err-taken.field-0.0
    c.from_residual.result c.from_residual.ensures.1 text c.in_err-taken.ensures.refused)
