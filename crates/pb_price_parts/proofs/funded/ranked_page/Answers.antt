use Rattle.std.proofs.Common.{◌∙◌, ℕ, List, map, subst, take}
use Rattle.pb_price.specs.declared.ProjectMargins.{ProjectMargins}
use Rattle.pb_markup.specs.InOrder.{HasParts}
use Rattle.pb_markup.specs.Pieces.{Piece}
use Rattle.std.specs.Prelude.{IfSome}
use Rattle.pb_figures.specs.Ranking.{AreRanked, by_size, funded}
use Rattle.pb_price_parts.specs.Rows.{ListsFunded, amount_piece, funded_amount, most_rows}
use Rattle.pb_markup.proofs.Adding.{append-behind, append-step}
use Rattle.pb_markup.proofs.InOrder.{in-order-before, in-order-behind}
use Rattle.pb_price_parts.proofs.funded.ranked_page.Goals as goal

pub returns : goal.returns
returns c =
    let ranked = c.in_ok-ranked.ranked.items in
    let are =
    subst (λ (ms : List ProjectMargins). AreRanked by_size (funded ms) ranked) c.deref.ensures.value
    c.in_ok-ranked.ensures in
    let shown = map funded_amount (take most_rows ranked) in
    let has : List Piece → Type 0 = HasParts amount_piece shown in
    let listed =
    subst (λ (xs : List (ℕ × ℕ × ℕ)). IfSome c.rows.result (HasParts amount_piece (map funded_amount xs)))
    (c.deref-2.ensures.value ∙ c.truncate.ensures.items) c.rows.ensures in
    let appended = append-behind has has _ _ _ (in-order-behind amount_piece shown) listed c.append.ensures in
    append-step has (ListsFunded c.args.figures.now.margins.projects.items) _ _ _
    (λ these those listed. (ranked, are, in-order-before amount_piece shown these those listed))
    appended c.append-2.ensures
