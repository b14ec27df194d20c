use Rattle.std.proofs.Common.{[], ◌∷◌, arith}
use Rattle.std.proofs.lemmas.Result.{err_from_is_err_and}
use Rattle.pb_certificate.proofs.OnPrices.HeadSteps.{in-head}
use Rattle.pb_certificate.proofs.prices.head.read_head.Goals as goal

pub returns-in_err-take_name : goal.returns-in_err-take_name
returns-in_err-take_name c = λ e recs s. (
    let p = err_from_is_err_and c.from_residual.result c.from_residual.ensures.1 in
    rw (p.1, p.2)
    (in-head e recs [] c.take_name.new.cursor c.in_err-take_name.field-0.0 (omega arith)
    (c.in_err-take_name.ensures e recs [] s))
    )

pub returns-in_err-denominator : goal.returns-in_err-denominator
returns-in_err-denominator c = λ e recs s. (
    let p = err_from_is_err_and c.from_residual-in_err-denominator.result
    c.from_residual-in_err-denominator.ensures.1 in
    let name = c.in_ok-take_name.ensures e recs [] s in
    let before = c.take_name.new.cursor.row ∷ [] in
    rw (p.1, p.2)
    (in-head e recs before c.take_denominator.new.cursor c.in_err-denominator.field-0.0 (omega arith)
    (c.in_err-denominator.ensures e recs before name))
    )

pub returns-in_err-budget : goal.returns-in_err-budget
returns-in_err-budget c = λ e recs s. (
    let p = err_from_is_err_and c.from_residual-in_err-budget.result c.from_residual-in_err-budget.ensures.1 in
    let name = c.in_ok-take_name.ensures e recs [] s in
    let d = c.in_ok-denominator.denominator in
    let denominator = c.in_ok-denominator.ensures e recs (c.take_name.new.cursor.row ∷ []) name in
    let before = c.take_name.new.cursor.row ∷ c.take_denominator.new.cursor.row ∷ [] in
    rw (p.1, p.2)
    (in-head e recs before c.take_budget.new.cursor c.in_err-budget.field-0.0 (omega arith)
    (c.in_err-budget.ensures d e recs before denominator))
    )

pub returns-in_err-take_columns : goal.returns-in_err-take_columns
returns-in_err-take_columns c = λ e recs s. (
    let p = err_from_is_err_and c.from_residual-in_err-take_columns.result
    c.from_residual-in_err-take_columns.ensures.1 in
    let name = c.in_ok-take_name.ensures e recs [] s in
    let d = c.in_ok-denominator.denominator in
    let denominator = c.in_ok-denominator.ensures e recs (c.take_name.new.cursor.row ∷ []) name in
    let budget =
    c.in_ok-budget.ensures d e recs (c.take_name.new.cursor.row ∷ c.take_denominator.new.cursor.row ∷ []) denominator in
    let before = c.take_name.new.cursor.row ∷ c.take_denominator.new.cursor.row ∷ c.take_budget.new.cursor.row ∷ [] in
    rw (p.1, p.2)
    (in-head e recs before c.take_columns.new.cursor c.in_err-take_columns.field-0.0 (omega arith)
    (c.in_err-take_columns.ensures d c.in_ok-budget.budget e recs before budget))
    )

pub returns : goal.returns
returns c = λ e recs s. (
    let name = c.in_ok-take_name.ensures e recs [] s in
    let d = c.in_ok-denominator.denominator in
    let denominator = c.in_ok-denominator.ensures e recs (c.take_name.new.cursor.row ∷ []) name in
    let budget =
    c.in_ok-budget.ensures d e recs (c.take_name.new.cursor.row ∷ c.take_denominator.new.cursor.row ∷ []) denominator in
    let before = c.take_name.new.cursor.row ∷ c.take_denominator.new.cursor.row ∷ c.take_budget.new.cursor.row ∷ [] in
    (_, c.in_ok-take_columns.ensures d c.in_ok-budget.budget e recs before budget)
    )
