use Rattle.std.proofs.Common.{◌∙◌, ℕ, [], ◌∷◌, ap, arith, subst}
use Rattle.std.specs.Prelude.{if◌then◌else◌}
use Rattle.pb_markup.specs.Pieces.{Adds, Amount}
use Rattle.pb_price_parts.specs.Rows.{unfunded_amount}
use Rattle.pb_figures.specs.declared.figure.Figure.{Figure}
use Rattle.pb_figures.specs.declared.figure.Figure.TheVariants as figure
use Rattle.pb_price_parts.proofs.Rows.{rows-next}
use Rattle.pb_price_parts.proofs.unfunded.rows.Goals as goal

pub loop-one-preserved : goal.loop-one-preserved
loop-one-preserved c =
    let stable = c.args.case.now.told.mode.stable in
    rows-next (unfunded_amount stable) c.args.ranked.now c.loop-one.one-index _ _ _ _ _ _ _
    (omega (arith, c.loop-one-test.true)) c.append.ensures
    (subst (λ (f : Figure). Adds c.append.new.self (Amount f ∷ []) c.figure.new.self)
    (c.has_figure.ensures ∙ ap (λ (j : ℕ). if stable then figure.Offer j else figure.Left j) c.narrow-j.ensures)
    c.figure.ensures)
    c.append-in-loop-one.ensures c.loop-one.invariant
