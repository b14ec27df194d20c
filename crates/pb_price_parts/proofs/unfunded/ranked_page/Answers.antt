use Rattle.std.proofs.Common.{◌∙◌, ℕ, List, map, subst, take}
use Rattle.std.specs.Prelude.{IfSome, ℤ}
use Rattle.pb_price.specs.declared.ProjectMargins.{ProjectMargins}
use Rattle.pb_markup.specs.InOrder.{HasParts}
use Rattle.pb_markup.specs.Pieces.{Piece}
use Rattle.pb_figures.specs.Ranking.{AreRanked, by_missing, unfunded}
use Rattle.pb_price_parts.specs.Rows.{ListsUnfunded, amount_piece, most_rows, unfunded_amount}
use Rattle.pb_markup.proofs.Adding.{append-behind, append-step}
use Rattle.pb_markup.proofs.InOrder.{in-order-before, in-order-behind}
use Rattle.pb_price_parts.proofs.unfunded.ranked_page.Goals as goal

pub returns : goal.returns
returns c =
    let stable = c.args.case.now.told.mode.stable in
    let ranked = c.in_ok-ranked.ranked.items in
    let are =
    subst (λ (ms : List ProjectMargins). AreRanked by_missing (unfunded stable ms) ranked) c.deref.ensures.value
    c.in_ok-ranked.ensures in
    let shown = map (unfunded_amount stable) (take most_rows ranked) in
    let has : List Piece → Type 0 = HasParts amount_piece shown in
    let listed =
    subst (λ (xs : List (ℤ × ℕ)). IfSome c.rows.result (HasParts amount_piece (map (unfunded_amount stable) xs)))
    (c.deref-4.ensures.value ∙ c.truncate.ensures.items) c.rows.ensures in
    let appended = append-behind has has _ _ _ (in-order-behind amount_piece shown) listed c.append.ensures in
    append-step has (ListsUnfunded stable c.args.figures.now.margins.projects.items) _ _ _
    (λ these those listed. (ranked, are, in-order-before amount_piece shown these those listed))
    appended c.append-2.ensures
