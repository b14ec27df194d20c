use Rattle.std.proofs.Common.{◌∙◌, []}
use Rattle.std.proofs.lemmas.Result.{err_from_is_err_and}
use Rattle.pb_certificate.specs.Faults.{certificate_records}
use Rattle.pb_certificate.proofs.OnPrices.ReaderSteps.{between-rows, given-is, opened, refused-in-head}
use Rattle.pb_certificate.proofs.prices.row_reader.RowReader.open.Goals as goal

pub returns-in_err-denominator-clause-in_head : goal.returns-in_err-denominator-clause-in_head
returns-in_err-denominator-clause-in_head c =
    let p = err_from_is_err_and c.from_residual.result c.from_residual.ensures.1 in
    let at = opened c.args.election.now (certificate_records c.args.bytes.now) c.open-cursor.result c.open-cursor.ensures.record_number
    c.open-cursor.ensures.left in
    rw (p.1, p.2)
    (refused-in-head (certificate_records c.args.bytes.now) c.args.election.now c.read_head.new.cursor
    c.in_err-denominator.field-0.0 (c.in_err-denominator.ensures c.args.election.now (certificate_records c.args.bytes.now) at))

pub returns-clause-reading : goal.returns-clause-reading
returns-clause-reading c =
    let at = opened c.args.election.now (certificate_records c.args.bytes.now) c.open-cursor.result c.open-cursor.ensures.record_number
    c.open-cursor.ensures.left in
    let read = c.in_ok-denominator.ensures c.args.election.now (certificate_records c.args.bytes.now) at in
    record {
      before = read.0;
      payments = [];
      taken = read.1.taken;
      stands = read.1.stands;
      remembers = c.in_ok-prior.ensures.remembers;
      each_project = c.in_ok-prior.ensures.projects ∙ c.projects.ensures.value;
    }

pub returns-clause-none_given : goal.returns-clause-none_given
unfolding returns-clause-reading
returns-clause-none_given c = given-is _ (returns-clause-reading c)

pub returns-clause-between : goal.returns-clause-between
unfolding returns-clause-reading
returns-clause-between c = between-rows _ (returns-clause-reading c)
