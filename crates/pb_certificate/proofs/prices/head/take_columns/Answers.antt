use Rattle.std.proofs.Common.{◌∙◌, refl, sym}
use Rattle.std.proofs.lemmas.Result.{err_from_is_err_and}
use Rattle.pb_certificate.specs.Prices.Kind.Awaited.{Columns, Row}
use Rattle.pb_certificate.specs.declared.refusal.CertFault.TheVariants as fault
use Rattle.pb_certificate.proofs.OnPrices.HeadSteps.{head-refused, head-taken}
use Rattle.pb_certificate.proofs.prices.head.take_columns.Goals as goal

pub returns-in_err-next_head : goal.returns-in_err-next_head
returns-in_err-next_head c = λ d b. (
    let p = err_from_is_err_and c.from_residual.result c.from_residual.ensures.1 in
    rw (p.1, p.2) (c.in_err-next_head.ensures (Columns d b) refl)
    )

pub returns-then-not-is_triple : goal.returns-then-not-is_triple
returns-then-not-is_triple c = λ d b. (
    let is = sym (rw c.row.ensures at c.is_triple.ensures) ∙ c.if-not-is_triple.true in
    rw c.refused_here.ensures
    (head-refused (Columns d b) c.args.cursor.now c.next_head.new.cursor fault.BadHead refl c.in_ok-next_head.ensures
    (rw is refl))
    )

pub returns : goal.returns
returns c = λ d b. (
    let is = sym (rw c.row.ensures at c.is_triple.ensures) ∙ c.if-not-is_triple.false in
    head-taken (Columns d b) (Row d b) c.args.cursor.now c.next_head.new.cursor refl c.in_ok-next_head.ensures
    (rw is refl)
    )
