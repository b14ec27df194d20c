use Rattle.std.proofs.Common.{◌∙◌, sym, refl}
use Rattle.std.proofs.lemmas.Str.{IsCharBoundary-start}
use Rattle.pb_records.proofs.CellLemmas.{front-ends, front-goes, front-stays}
use Rattle.pb_records.proofs.cells.clean_front.Goals as goal
use Rattle.pb_records.proofs.cells.clean_front.Goals.{then-loop-start-test+else-is_space, else-loop-start-test}

pub loop-start-init : goal.loop-start-init
loop-start-init c = (refl, IsCharBoundary-start c.args.text.now c.utf8.text)

pub loop-start-preserved : goal.loop-start-preserved
loop-start-preserved c =
    let goes = front-goes c.as_bytes-bytes.result.now c.args.text.now c.loop-start.start c.as_bytes-bytes.ensures.value
    c.utf8.text c.loop-start-test.true (sym c.is_space.ensures ∙ c.if-is_space.true) in
    (goes.0 ∙ c.loop-start.invariant.0, goes.1)

pub returns : goal.returns
returns c =
    let same = c.as_bytes-bytes.ensures.value in
    elim c.loop-start-test.branch [
      | then-loop-start-test+else-is_space w ↦
          c.range_from.ensures.value
          ∙ sym
          (front-stays c.as_bytes-bytes.result.now c.args.text.now c.loop-start.start same w.loop-start-test.true
          (sym w.is_space.ensures ∙ w.if-is_space.false)) ∙ c.loop-start.invariant.0
      | else-loop-start-test w ↦
          c.range_from.ensures.value
          ∙ sym
          (front-ends c.as_bytes-bytes.result.now c.args.text.now c.loop-start.start same w.loop-start-test.false)
          ∙ c.loop-start.invariant.0
    ]
