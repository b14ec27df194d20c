use Rattle.std.proofs.Common.{◌++◌, List}
use Rattle.pb_markup.specs.Pieces.{Piece}
use Rattle.pb_page.specs.Answers.{line_box}
use Rattle.pb_price_parts.specs.Rows.{ListsProjects}
use Rattle.pb_page.specs.Sums.{HasInOrder, code_box}
use Rattle.pb_page.specs.Taken.{sums_shown}
use Rattle.pb_markup.proofs.Adding.{adds-step, append-behind, append-step}
use Rattle.pb_markup.proofs.InOrder.{in-order-before, in-order-behind}
use Rattle.pb_page.proofs.Boxes.{answer-with-line, answer-with-middle, answer-with-rest, has-headline}
use Rattle.pb_price_parts.proofs.Rows.{lists-before, lists-behind}
use Rattle.pb_page.proofs.parts.whole_page.Goals as goal

pub returns-clause-answer : goal.returns-clause-answer
returns-clause-answer c =
    let headed = has-headline _ _ c.push_headline.ensures in
    let middled = answer-with-middle _ _ _ headed c.append.ensures in
    let lined = answer-with-line _ _ middled c.push_line.ensures in
    answer-with-rest _ _ _ lined c.append-2.ensures

pub returns-clause-sums : goal.returns-clause-sums
returns-clause-sums c =
    let sums = sums_shown c.args.case.now.files in
    let has : List Piece → Type 0 = HasInOrder sums in
    let appended = append-behind has has _ _ _ (in-order-behind code_box sums) c.behind_answer.ensures.sums c.append.ensures in
    let before : (these those : List Piece) → has these → has (these ++ those) = in-order-before code_box sums in
    let lined = adds-step has has _ _ line_box (λ these. before these line_box) appended c.push_line.ensures in
    append-step has has _ _ _ before lined c.append-2.ensures

pub returns-clause-projects : goal.returns-clause-projects
returns-clause-projects c =
    let told = c.args.case.now.told in
    let lists : List Piece → Type 0 = ListsProjects told.mode told.found in
    let before = lists-before told.mode told.found in
    let appended =
    append-behind lists lists _ _ _ (lists-behind told.mode told.found) c.behind_answer.ensures.projects c.append.ensures in
    let lined = adds-step lists lists _ _ line_box (λ these. before these line_box) appended c.push_line.ensures in
    append-step lists lists _ _ _ before lined c.append-2.ensures
