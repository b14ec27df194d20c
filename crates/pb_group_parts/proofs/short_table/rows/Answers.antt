use Rattle.std.proofs.Common.{ℕ, [], ◌∷◌, arith, subst}
use Rattle.pb_markup.specs.Pieces.{Adds, Amount}
use Rattle.pb_price_parts.specs.Rows.{group_amount}
use Rattle.pb_figures.specs.declared.figure.Figure.TheVariants as figure
use Rattle.pb_price_parts.proofs.Rows.{rows-next}
use Rattle.pb_group_parts.proofs.short_table.rows.Goals as goal

pub loop-one-preserved : goal.loop-one-preserved
loop-one-preserved c =
    rows-next group_amount c.args.ranked.now c.loop-one.one-index _ _ _ _ _ _ _
    (omega (arith, c.loop-one-test.true)) c.append.ensures
    (subst (λ (j : ℕ). Adds c.append.new.self (Amount (figure.Part j) ∷ []) c.figure.new.self) c.narrow-k.ensures c.figure.ensures)
    c.append-in-loop-one.ensures c.loop-one.invariant
