use Rattle.std.proofs.Common.{List}
use Rattle.pb_markup.specs.Pieces.{Piece}
use Rattle.pb_price_parts.specs.Rows.{ListsProjects}
use Rattle.pb_page.specs.Sums.{HasInOrder, code_box}
use Rattle.pb_page.specs.Taken.{sums_shown}
use Rattle.pb_markup.proofs.Adding.{append-behind, append-step}
use Rattle.pb_markup.proofs.InOrder.{in-order-behind}
use Rattle.pb_price_parts.proofs.Rows.{lists-before, lists-behind}
use Rattle.pb_page.proofs.parts.behind_answer.Goals as goal

pub returns-clause-sums : goal.returns-clause-sums
returns-clause-sums c =
    let sums = sums_shown c.args.case.now.files in
    let has : List Piece → Type 0 = HasInOrder sums in
    append-behind has has _ _ _ (in-order-behind code_box sums) c.behind_figures.ensures c.append-2.ensures

pub returns-clause-projects : goal.returns-clause-projects
returns-clause-projects c =
    let told = c.args.case.now.told in
    let lists : List Piece → Type 0 = ListsProjects told.mode told.found in
    let appended =
    append-behind lists lists _ _ _ (lists-behind told.mode told.found) c.figures_of.ensures c.append.ensures in
    append-step lists lists _ _ _ (lists-before told.mode told.found) appended c.append-2.ensures
