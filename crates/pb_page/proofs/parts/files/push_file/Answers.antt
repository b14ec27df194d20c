use Rattle.std.proofs.Common.{ℕ, List, [], ◌∷◌, ◌++◌, subst}
use Rattle.pb_markup.specs.Pieces.{Adds, Close, Piece}
use Rattle.pb_page.specs.Sums.{HasInOrder, code_box}
use Rattle.pb_page.specs.Taken as spec
use Rattle.pb_markup.proofs.Adding.{adds-step, part-next}
use Rattle.pb_markup.proofs.InOrder.{in-order-before}
use Rattle.pb_page.proofs.parts.files.push_file.Goals as goal

pub returns : goal.returns
returns c texts has =
    let sums = texts ++ spec.sum_of c.args.file.now ∷ [] in
    let with_sum : List Piece → Type 0 = HasInOrder sums in
    let closed = λ (these : List Piece). in-order-before code_box sums these (Close ∷ []) in
    let boxed =
    subst (λ (text : List ℕ). Adds c.append.new.self (code_box text) c.element.new.self) c.deref.ensures
    c.element.ensures in
    let one = part-next code_box texts (spec.sum_of c.args.file.now) _ _ _ _ c.append.ensures boxed has in
    let two = adds-step with_sum with_sum _ _ (Close ∷ []) closed one c.close.ensures in
    adds-step with_sum with_sum _ _ (Close ∷ []) closed two c.close-2.ensures
