use Rattle.std.proofs.lemmas.Result.{err_from_is_err_and}
use Rattle.pb_certificate.proofs.OnPrices.ReaderSteps.{comes-end, comes-record, next-refused, none-left, row-answered, triple-answered}
use Rattle.pb_certificate.proofs.prices.row_reader.RowReader.advance.Goals as goal

pub returns-in-Some : goal.returns-in-Some
returns-in-Some c =
    triple-answered c.args.self.now c.take_triple.new.self c.in-Some.triple c.take_triple-taken.new.self
    c.take_triple-taken.result c.record_number.result c.answer.result c.requires c.in-Some.ensures
    c.take_triple-taken.ensures.takes c.take_triple-taken.ensures.projects c.record_number.ensures.value c.answer.ensures

pub returns-in_err-next_record : goal.returns-in_err-next_record
returns-in_err-next_record c =
    let p = err_from_is_err_and c.from_residual.result c.from_residual.ensures.1 in
    let comes = rw c.in_default.ensures at c.in_err-next_record.ensures in
    rw (p.1, p.2)
    (next-refused c.args.self.now c.next_record.new.cursor c.in_err-next_record.field-0.0 c.requires comes)

pub returns-then-not-branch : goal.returns-then-not-branch
returns-then-not-branch c =
    let met = comes-end c.args.self.now.cursor c.take_triple.new.self c.next_record.new.cursor
    c.in_ok-next_record.field-0 c.in_ok-next_record.ensures c.in_default.ensures c.if-not-branch.true in
    none-left c.args.self.now c.next_record.new.cursor c.requires met

pub returns : goal.returns
returns c =
    let met = comes-record c.args.self.now.cursor c.take_triple.new.self c.next_record.new.cursor
    c.in_ok-next_record.field-0 c.in_ok-next_record.ensures c.in_default.ensures c.if-not-branch.false in
    let takes = rw c.row.ensures at c.take-taken.ensures.takes in
    row-answered c.args.self.now c.next_record.new.cursor c.take-taken.new.self c.take-taken.result c.record_number-2.result
    c.answer-2.result c.requires met takes c.take-taken.ensures.projects c.record_number-2.ensures.value c.answer-2.ensures
