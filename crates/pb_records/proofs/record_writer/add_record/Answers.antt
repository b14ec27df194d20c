use Rattle.std.proofs.Common.{◌≢◌, map}
use Rattle.csv.specs.Writing.{writer_setup}
use Rattle.csv.specs.declared.writer.QuoteStyle.TheVariants as style
use Rattle.pb_records.proofs.Csv.{same-row_text}
use Rattle.pb_records.proofs.record_writer.add_record.Goals as goal

pub returns-clause-text : goal.returns-clause-text
returns-clause-text c =
    let plain : (writer_setup c.args.writer.now).style ≢ style.NonNumeric = rw c.requires.setup (λ e. cc e) in
    let text = c.in-Ok.ensures.bytes c.requires.between c.requires.fresh plain in
    rw (c.requires.setup, same-row_text (map (λ f. f.now) c.args.fields.now)) at text
