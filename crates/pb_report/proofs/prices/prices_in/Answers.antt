use Rattle.std.proofs.Common.{refl, rules, sym}
use Rattle.pb_reply.specs.Inside.Loaded.{lent}
use Rattle.pb_reply.proofs.Takings.{taken_was_read}
use Rattle.pb_report.proofs.Told.{findings_can_be_told}
use Rattle.pb_report.proofs.prices.prices_in.Goals as goal

pub returns-clause-taken : goal.returns-clause-taken
returns-clause-taken c =
    let found = taken_was_read _ _ c.findings_and_margins_of-read.result _ _ c.in_ok-findings.ensures refl c.findings_and_margins_of-read.ensures.found in
    rw (sym c.election.ensures, sym c.outcome.ensures.value)
    (found.0, search rules, record { mode = refl; findings = found.2; margins = found.3 })

pub returns-clause-told : goal.returns-clause-told
returns-clause-told c =
    let found = taken_was_read _ _ c.findings_and_margins_of-read.result _ _ c.in_ok-findings.ensures refl c.findings_and_margins_of-read.ensures.found in
    rw (sym c.election.ensures)
    (record {
      findings = findings_can_be_told c.args.input c.election.result.now c.outcome.result.now.marks
          (lent c.args.certificate) found.0 _ (search rules) found.2;
      nearest = tt;
      voters = tt;
    })
