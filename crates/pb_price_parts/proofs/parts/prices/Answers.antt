use Rattle.std.proofs.Common.{List}
use Rattle.pb_markup.specs.Pieces.{Piece}
use Rattle.pb_price_parts.specs.Rows.{ListsFunded, ListsUnfunded}
use Rattle.pb_markup.proofs.Adding.{append-behind, append-step}
use Rattle.pb_price_parts.proofs.Rows.{funded-before, funded-behind, unfunded-before}
use Rattle.pb_price_parts.proofs.parts.prices.Goals as goal

pub returns-clause-unfunded : goal.returns-clause-unfunded
returns-clause-unfunded c =
    let stable = c.args.case.now.told.mode.stable in
    let projects = c.args.figures.now.margins.projects.items in
    let lists : List Piece → Type 0 = ListsUnfunded stable projects in
    let before = unfunded-before stable projects in
    let appended = append-step lists lists _ _ _ before c.unfunded-page.ensures c.append.ensures in
    append-step lists lists _ _ _ before appended c.append-2.ensures

pub returns-clause-funded : goal.returns-clause-funded
returns-clause-funded c =
    let projects = c.args.figures.now.margins.projects.items in
    let lists : List Piece → Type 0 = ListsFunded projects in
    let appended = append-behind lists lists _ _ _ (funded-behind projects) c.funded.ensures c.append.ensures in
    append-step lists lists _ _ _ (funded-before projects) appended c.append-2.ensures
