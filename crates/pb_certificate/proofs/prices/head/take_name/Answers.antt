use Rattle.std.proofs.Common.{◌∙◌, refl, sym}
use Rattle.std.proofs.lemmas.Result.{err_from_is_err_and}
use Rattle.pb_certificate.specs.Prices.Kind.Awaited.{Name, Denominator}
use Rattle.pb_certificate.specs.declared.refusal.CertFault.TheVariants as fault
use Rattle.pb_certificate.proofs.OnPrices.HeadSteps.{head-refused, head-taken}
use Rattle.pb_certificate.proofs.prices.head.take_name.Goals as goal

pub returns-in_err-next_head : goal.returns-in_err-next_head
returns-in_err-next_head c =
    let p = err_from_is_err_and c.from_residual.result c.from_residual.ensures.1 in
    rw (p.1, p.2) (c.in_err-next_head.ensures Name refl)

pub returns-then-not-is_pair : goal.returns-then-not-is_pair
returns-then-not-is_pair c =
    let is = sym (rw c.row.ensures at c.is_pair.ensures) ∙ c.if-not-is_pair.true in
    rw c.refused_here.ensures
    (head-refused Name c.args.cursor.now c.next_head.new.cursor fault.BadHead refl c.in_ok-next_head.ensures
    (rw is refl))

pub returns : goal.returns
returns c =
    let is = sym (rw c.row.ensures at c.is_pair.ensures) ∙ c.if-not-is_pair.false in
    head-taken Name Denominator c.args.cursor.now c.next_head.new.cursor refl c.in_ok-next_head.ensures (rw is refl)
