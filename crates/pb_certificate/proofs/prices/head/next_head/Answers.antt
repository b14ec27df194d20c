use Rattle.std.proofs.lemmas.Result.{err_from_is_err_and}
use Rattle.pb_certificate.proofs.OnPrices.HeadSteps.{head-ends, none-met}
use Rattle.pb_certificate.proofs.prices.head.next_head.Goals as goal

pub returns-in_err-next_record : goal.returns-in_err-next_record
returns-in_err-next_record c =
    let p = err_from_is_err_and c.from_residual.result c.from_residual.ensures.1 in
    rw (p.1, p.2)
    (none-met c.args.cursor.now c.next_record.new.cursor c.in_err-next_record.field-0.0
    c.in_err-next_record.ensures)

pub returns : goal.returns
returns c =
    let met = rw c.if-branch.false at c.in_ok-next_record.ensures in
    rw c.record_number.ensures.value (head-ends c.args.cursor.now c.next_record.new.cursor met)
