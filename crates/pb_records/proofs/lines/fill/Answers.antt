use Rattle.std.proofs.Common.{◌≡◌, ◌∙◌, [], ◌∷◌, sym}
use Rattle.csv.specs.Records.{fields_of}
use Rattle.pb_records.proofs.PlainLines.{first-field, last-field, next-field, no-fields, text-push}
use Rattle.pb_records.proofs.lines.fill.Goals as goal

pub loop-left-init : goal.loop-left-init
loop-left-init c =
    let a = c.cut_field.result.0.now in
    let row : fields_of c.push_field.new.self ≡ a ∷ [] = rw c.clear.ensures.fields at c.in_ok-push_field.ensures.fields in (
      record {
        text = c.behind_feed.result.now;
        same = c.behind_feed.ensures;
        follows =
            λ more comma.
            rw row
            (first-field c.behind_feed.result.now a c.cut_field.result.1.now more c.cut_field.ensures.cut comma
            c.cut_field.ensures.plain);
      },
      rw row (text-push [] a no-fields c.cut_field.ensures.utf8.0),
      c.cut_field.ensures.utf8.1,
    )

pub loop-left-preserved : goal.loop-left-preserved
loop-left-preserved c =
    let h = c.loop-left.invariant in
    let a = c.cut_field-in-loop-left.result.0.now in
    let row = c.in_ok-push_field-2.ensures.fields in (
      record {
        text = h.0.text;
        same = h.0.same;
        follows =
            λ more comma.
            rw row
            (next-field h.0.text (fields_of c.loop-left.row) c.in-Some.more.now a c.cut_field-in-loop-left.result.1.now
            more (h.0.follows c.in-Some.more.now c.in-Some.ensures.cut) c.cut_field-in-loop-left.ensures.cut comma
            c.cut_field-in-loop-left.ensures.plain);
      },
      rw row (text-push (fields_of c.loop-left.row) a h.1 c.cut_field-in-loop-left.ensures.utf8.0),
      c.cut_field-in-loop-left.ensures.utf8.1,
    )

pub returns-then-ends_line : goal.returns-then-ends_line
returns-then-ends_line c =
    let h = c.loop-left.invariant in
    let a = c.cut_field-in-loop-left.result.0.now in
    let row = c.in_ok-push_field-2.ensures.fields in
    let end = c.ends_line.ensures c.if-ends_line.true in
    record {
      records =
          rw row
          (sym h.0.same
          ∙ last-field h.0.text (fields_of c.loop-left.row) c.in-Some.more.now a
          c.cut_field-in-loop-left.result.1.now (h.0.follows c.in-Some.more.now c.in-Some.ensures.cut)
          c.cut_field-in-loop-left.ensures.cut c.cut_field-in-loop-left.ensures.plain end);
      is_utf8 = rw row (text-push (fields_of c.loop-left.row) a h.1 c.cut_field-in-loop-left.ensures.utf8.0);
      at_end = end;
    }
