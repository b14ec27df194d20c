use Rattle.std.proofs.Common.{◌≡◌, ◌∙◌, sym, ap, refl, arith, false, true}
use Rattle.csv.specs.Records.{fields_of}
use Rattle.pb_money.specs.Digits.{is_empty}
use Rattle.pb_money.proofs.Numbers.{is-empty}
use Rattle.pb_records.proofs.CellLemmas.{blank-drop, blank-none}
use Rattle.pb_records.proofs.Csv.{field-some}
use Rattle.pb_records.proofs.Cleaning.{empty-by-front}
use Rattle.pb_records.proofs.cells.is_blank_from.Goals as goal

pub returns-then-not-is_empty : goal.returns-then-not-is_empty
returns-then-not-is_empty c =
    let b = blank-drop (fields_of c.args.row.now) c.loop-field.i c.in-Some.field.now (sym c.in-Some.ensures.value) in
    let e : _ ≡ false = empty-by-front c.in-Some.field.now ∙ ap is_empty (sym c.clean_front.ensures)
    ∙ is-empty c.clean_front.result.now ∙ sym c.is_empty.ensures ∙ c.if-not-is_empty.true in
    sym (sym c.loop-field.invariant ∙ b ∙ rw e refl)

pub loop-field-smaller : goal.loop-field-smaller
loop-field-smaller c = grind (arith, field-some)

pub loop-field-preserved : goal.loop-field-preserved
loop-field-preserved c =
    let b = blank-drop (fields_of c.args.row.now) c.loop-field.i c.in-Some.field.now (sym c.in-Some.ensures.value) in
    let e : _ ≡ true = empty-by-front c.in-Some.field.now ∙ ap is_empty (sym c.clean_front.ensures)
    ∙ is-empty c.clean_front.result.now ∙ sym c.is_empty.ensures ∙ c.if-not-is_empty.false in
    sym (rw e at b) ∙ c.loop-field.invariant

pub returns : goal.returns
returns c = grind (arith, blank-none)
