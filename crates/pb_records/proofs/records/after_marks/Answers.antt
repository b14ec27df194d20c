use Rattle.std.proofs.Common.{◌∙◌, sym, ap}
use Rattle.pb_records.specs.Records.{drop_marks}
use Rattle.pb_records.proofs.ByteOrderMarks.{marks_more, marks_none}
use Rattle.pb_records.proofs.records.after_marks.Goals as goal

pub loop-rest-preserved : goal.loop-rest-preserved
loop-rest-preserved c =
    let e = c.in-Some.ensures.cases in
    ap drop_marks e.1 ∙ marks_more c.loop-rest.text.now e.0 ∙ c.loop-rest.invariant

pub returns : goal.returns
returns c = sym (marks_none c.loop-rest.text.now c.in_default.ensures.cases) ∙ c.loop-rest.invariant
