use Rattle.pb_records.proofs.DraftProgress.{progress-end, progress-fault, progress-next, progress-none, progress-not-text, progress-start}
use Rattle.pb_records.proofs.drafts.take_records.Goals as goal

pub rows-init : goal.rows-init
rows-init g c =
    rw c.requires.first
    (progress-start (g.D.Draft.form c.args.against.now) (g.D.Draft.HasTaken c.args.against.now c.args.draft.now)
    c.args.cursor.now.left c.requires.none)

pub returns-in-Ok-NotText-clause-stopped : goal.returns-in-Ok-NotText-clause-stopped
returns-in-Ok-NotText-clause-stopped g c =
    let met = rw c.in-Ok-NotText.field-0-is at c.in-Ok-NotText.ensures.next in
    rw c.record_number.ensures.value (progress-not-text c.not_text.result c.rows.invariant met c.not_text.ensures)

pub rows-preserved : goal.rows-preserved
rows-preserved g c =
    let met = rw c.in-Ok-Record.field-0-is at c.in-Ok-Record.ensures.next in
    progress-next c.rows.invariant met (rw c.row.ensures at c.in-Ok.ensures.taken)

pub returns-in-Err-Fault-clause-stopped : goal.returns-in-Err-Fault-clause-stopped
returns-in-Err-Fault-clause-stopped g c =
    let met = rw c.in-Ok-Record.field-0-is at c.in-Ok-Record.ensures.next in
    let here = rw c.row.ensures at (rw c.in-Err-Fault.field-0-is at c.in-Err-Fault.ensures.stopped) in
    rw c.record_number-in-Err-Fault.ensures.value (progress-fault c.in-Err-Fault.fault c.rows.invariant met here)

pub returns-in-None-clause-none : goal.returns-in-None-clause-none
returns-in-None-clause-none g c =
    let met = rw c.in-Ok-End.field-0-is at c.in-Ok-End.ensures.next in
    progress-none c.rows.invariant met c.in-None.ensures

pub returns-in-Some-clause-stopped : goal.returns-in-Some-clause-stopped
returns-in-Some-clause-stopped g c =
    let met = rw c.in-Ok-End.field-0-is at c.in-Ok-End.ensures.next in
    rw c.record_number-in-Some.ensures.value (progress-end c.in-Some.fault c.rows.invariant met c.in-Some.ensures)
