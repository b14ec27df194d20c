use Rattle.std.proofs.Common.{◌∙◌, refl, sym}
use Rattle.std.proofs.lemmas.Result.{err_from_is_err_and}
use Rattle.pb_certificate.specs.Prices.Kind.Awaited.{Budget, Columns}
use Rattle.pb_certificate.proofs.OnPrices.HeadSteps.{head-refused, head-taken}
use Rattle.pb_certificate.proofs.prices.head.take_budget.Goals as goal

pub returns-in_err-next_head : goal.returns-in_err-next_head
returns-in_err-next_head c = λ d. (
    let p = err_from_is_err_and c.from_residual.result c.from_residual.ensures.1 in
    rw (p.1, p.2) (c.in_err-next_head.ensures (Budget d) refl)
    )

pub returns-in-Ok : goal.returns-in-Ok
returns-in-Ok c = λ d. (
    let is = rw c.row.ensures at (sym c.in-Ok.is ∙ c.head_number.ensures.value) in
    head-taken (Budget d) (Columns d c.in-Ok.number) c.args.cursor.now c.next_head.new.cursor refl
    c.in_ok-next_head.ensures (rw (sym is) refl)
    )

pub returns-in-Err : goal.returns-in-Err
returns-in-Err c = λ d. (
    let is = rw c.row.ensures at (sym c.in-Err.is ∙ c.head_number.ensures.value) in
    rw c.refused_here.ensures
    (head-refused (Budget d) c.args.cursor.now c.next_head.new.cursor c.in-Err.fault refl c.in_ok-next_head.ensures
    (rw (sym is) refl))
    )
