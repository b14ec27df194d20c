use Rattle.std.proofs.Common.{◌≤◌, sym, subst, arith}
use Rattle.pb_certificate.specs.Faults.{certificate_records}
use Rattle.pb_price.specs.Answers.{AreStepsOf, row_count}
use Rattle.pb_price.proofs.Certificates.{of-any, only-memory}
use Rattle.pb_price.proofs.Groups.{on-prices}
use Rattle.pb_price.proofs.checking.check_rows.Goals as goal

pub judge-requires : goal.judge-requires
judge-requires c = grind arith

pub returns : goal.returns
returns c =
    let t = c.in_ok-taken.ensures.taken in
    let on = on-prices c.args.mode c.args.election.now c.args.outcome.now.marks t.prices c.judge.result.verdict
    (subst (λ d. 1 ≤ d) (sym t.denominator) t.low) (c.judge.ensures.verdict t.prices t.denominator t.tally) in
    record {
      found = (t.prices, t.text, on);
      steps = subst (AreStepsOf c.args.election.now (row_count c.args.bytes.now)) (sym c.judge.ensures.steps) t.steps;
      refused = tt;
      only = of-any _ t on;
    }

pub returns-in_err-taken-clause-only : goal.returns-in_err-taken-clause-only
returns-in_err-taken-clause-only c = λ p text.
    rw (only-memory (certificate_records c.args.bytes.now) c.args.election.now p c.in_err-taken.field-0.0
    c.from_residual.result c.from_residual.ensures.1 text c.in_err-taken.ensures.refused)
