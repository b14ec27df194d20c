use Rattle.std.proofs.lemmas.Result.{err_from_is_err_and}
use Rattle.pb_records.specs.Cells.{nonblank}
use Rattle.pb_certificate.specs.Faults.{certificate_records, violation_form}
use Rattle.pb_certificate.specs.Inside.Violations.{violation_had}
use Rattle.pb_certificate.proofs.Ends.{stop-is-memory, stop-refuses}
use Rattle.pb_certificate.proofs.OnViolations.Clear.{group-clear}
use Rattle.pb_certificate.proofs.Unique.{group-text-same}
use Rattle.pb_certificate.proofs.OnViolations.Answered.{as-many, states-claim}
use Rattle.pb_certificate.proofs.violations.Violation.read.Goals as goal

pub returns-in_err-take_all-clause-only : goal.returns-in_err-take_all-clause-only
unfolding violation_form
returns-in_err-take_all-clause-only c = λ m s t text. (
    let recs = certificate_records c.args.bytes.now in
    let e = c.args.election.now in
    let err = err_from_is_err_and c.from_residual-in_err-take_all.result c.from_residual-in_err-take_all.ensures.1 in
    rw (err.1, err.2)
    (stop-is-memory (violation_form e) recs c.in_err-take_all.field-0.0 c.in_err-take_all.ensures.stopped
    (λ f. group-clear recs e m s t text f.record_number f.fault))
    )

pub of-requires-clause-group : goal.of-requires-clause-group
unfolding violation_form
of-requires-clause-group c =
    (as-many c.args.election.now (violation_had c.take_all.new.draft) (nonblank (certificate_records c.args.bytes.now))
    c.in_ok-take_all.ensures.taken).0

pub of-requires-clause-demand : goal.of-requires-clause-demand
unfolding violation_form
of-requires-clause-demand c =
    (as-many c.args.election.now (violation_had c.take_all.new.draft) (nonblank (certificate_records c.args.bytes.now))
    c.in_ok-take_all.ensures.taken).1

pub returns-clause-found : goal.returns-clause-found
unfolding violation_form
returns-clause-found c =
    let v = c.in_ok-violation.violation in
    states-claim c.args.election.now (violation_had c.take_all.new.draft) (certificate_records c.args.bytes.now)
    v.measure v.group v.demand c.in_ok-take_all.ensures.taken c.in_ok-take_all.ensures.none
    c.in_ok-violation.ensures.measure c.in_ok-violation.ensures.group c.in_ok-violation.ensures.demand

pub returns-clause-only : goal.returns-clause-only
unfolding violation_form
returns-clause-only c = λ m s t text. (
    let v = c.in_ok-violation.violation in
    let recs = certificate_records c.args.bytes.now in
    let e = c.args.election.now in
    let own = states-claim e (violation_had c.take_all.new.draft) recs v.measure v.group v.demand
    c.in_ok-take_all.ensures.taken c.in_ok-take_all.ensures.none
    c.in_ok-violation.ensures.measure c.in_ok-violation.ensures.group c.in_ok-violation.ensures.demand in
    group-text-same recs e v.measure m v.group v.demand s t own text
    )

pub returns-in_err-take_all-clause-refused : goal.returns-in_err-take_all-clause-refused
unfolding violation_form
returns-in_err-take_all-clause-refused c =
    let err = err_from_is_err_and c.from_residual-in_err-take_all.result c.from_residual-in_err-take_all.ensures.1 in
    rw (err.1, err.2)
    (stop-refuses (violation_form c.args.election.now) (certificate_records c.args.bytes.now) c.in_err-take_all.field-0.0
    c.in_err-take_all.ensures.stopped)
