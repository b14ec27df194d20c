use Rattle.std.proofs.Common.{◌≡◌, ◌∙◌, sym, ap}
use Rattle.std.specs.Prelude.{Ok, Err}
use Rattle.pb_money.specs.Whole.{whole_of}
use Rattle.pb_certificate.proofs.Numbers.{none-read, number-read, too-low, within-bounds}
use Rattle.pb_certificate.proofs.fields.whole_within.Goals as goal

pub returns-in-Ok-clause-value : goal.returns-in-Ok-clause-value
returns-in-Ok-clause-value c =
    let read : Ok c.in-Ok.number ≡ whole_of c.args.most c.args.field.now =
    sym c.in-Ok.is ∙ c.read_whole.ensures.exact ∙ ap (whole_of c.args.most) c.as_bytes.ensures.value in
    let number = number-read c.args.most c.in-Ok.number c.args.field.now read in
    sym (within-bounds c.args.least c.args.most c.in-Ok.number c.args.field.now number.0 c.if-number-least.true
    number.1)

pub returns-in_default-clause-value : goal.returns-in_default-clause-value
returns-in_default-clause-value c =
    let read : Ok c.in-Ok.number ≡ whole_of c.args.most c.args.field.now =
    sym c.in-Ok.is ∙ c.read_whole.ensures.exact ∙ ap (whole_of c.args.most) c.as_bytes.ensures.value in
    let number = number-read c.args.most c.in-Ok.number c.args.field.now read in
    sym (too-low c.args.least c.args.most c.in-Ok.number c.args.field.now number.0 c.if-number-least.false)

pub returns-in_default-2-clause-value : goal.returns-in_default-2-clause-value
returns-in_default-2-clause-value c =
    let read : Err c.in_default.field-0 ≡ whole_of c.args.most c.args.field.now =
    sym c.in_default.is ∙ c.read_whole.ensures.exact ∙ ap (whole_of c.args.most) c.as_bytes.ensures.value in
    sym (none-read c.args.least c.args.most c.args.field.now c.in_default.field-0 read)
