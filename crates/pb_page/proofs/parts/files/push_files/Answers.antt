use Rattle.std.proofs.Common.{List, [], ◌∷◌, map}
use Rattle.std.specs.Prelude.{option_to_list}
use Rattle.pb_markup.specs.Pieces.{Close, Piece}
use Rattle.pb_page.specs.Sums.{HasInOrder, code_box}
use Rattle.pb_page.specs.Taken.{sum_of, sums_shown}
use Rattle.pb_markup.proofs.Adding.{adds-step, append-step, of-any}
use Rattle.pb_markup.proofs.InOrder.{in-order-before}
use Rattle.pb_page.proofs.parts.files.push_files.Goals as goal

pub returns : goal.returns
returns c =
    let files = c.args.case.now.files in
    let sums = sums_shown files in
    let has : List Piece → Type 0 = HasInOrder sums in
    let outcome = map sum_of (option_to_list files.outcome) in
    let one = c.push_file.ensures [] (of-any (HasInOrder []) _ (λ (pieces : List Piece). tt)) in
    let two = c.push_given.ensures (sum_of files.election ∷ []) one in
    let all = c.push_given-2.ensures (sum_of files.election ∷ outcome) two in
    let closed =
    adds-step has has _ _ (Close ∷ []) (λ these. in-order-before code_box sums these (Close ∷ [])) all c.close.ensures in
    append-step has has _ _ _ (in-order-before code_box sums) closed c.append.ensures
