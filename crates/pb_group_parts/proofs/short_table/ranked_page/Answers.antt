use Rattle.std.proofs.Common.{◌∙◌, ℕ, List, map, subst, take}
use Rattle.pb_cohesion.specs.declared.GroupFigures.{GroupFigures}
use Rattle.pb_markup.specs.InOrder.{HasParts}
use Rattle.pb_markup.specs.Pieces.{Piece}
use Rattle.std.specs.Prelude.{IfSome}
use Rattle.pb_figures.specs.Ranking.{AreRanked, by_group, groups}
use Rattle.pb_price_parts.specs.Rows.{ListsGroups, amount_piece, group_amount, most_rows}
use Rattle.pb_markup.proofs.Adding.{append-behind, append-step}
use Rattle.pb_markup.proofs.InOrder.{in-order-before, in-order-behind}
use Rattle.pb_group_parts.proofs.short_table.ranked_page.Goals as goal

pub returns : goal.returns
returns c =
    let ranked = c.in_ok-ranked.ranked.items in
    let are =
    subst (λ (xs : List GroupFigures). AreRanked by_group (groups xs) ranked) c.deref.ensures.value
    c.in_ok-ranked.ensures in
    let shown = map group_amount (take most_rows ranked) in
    let has : List Piece → Type 0 = HasParts amount_piece shown in
    let listed =
    subst (λ (xs : List (ℕ × ℕ)). IfSome c.rows.result (HasParts amount_piece (map group_amount xs)))
    (c.deref-2.ensures.value ∙ c.truncate.ensures.items) c.rows.ensures in
    let appended = append-behind has has _ _ _ (in-order-behind amount_piece shown) listed c.append.ensures in
    append-step has (ListsGroups c.args.figures.now.groups.items) _ _ _
    (λ these those listed. (ranked, are, in-order-before amount_piece shown these those listed))
    appended c.append-2.ensures
