use Rattle.std.proofs.Common.{◌∙◌, ap, arith}
use Rattle.pb_certificate.specs.Prices.Rows.{Rows}
use Rattle.pb_price.proofs.Rows.{can-take, few-then, last-then, takes-row}
use Rattle.pb_price.proofs.tallying.take_rows.Goals as goal

pub loop-behind-init : goal.loop-behind-init
loop-behind-init c = grind arith

pub take-requires : goal.take-requires
take-requires c = grind (arith, can-take)

pub loop-behind-preserved : goal.loop-behind-preserved
loop-behind-preserved c =
    let given_row = rw c.in-Some.is at c.in_ok-behind.ensures.row in
    record {
      same = given_row.same
          ∙ (let at : Rows
          → Rows = λ x. record x { record_number = c.in_ok-behind.behind.record_number } in ap at c.loop-behind.invariant.same);
      tallied = c.take.ensures.taken _ _ c.loop-behind.invariant.tallied
          (takes-row c.loop-behind.left c.in_ok-behind.behind c.in-Some.row given_row);
      closed =
          omega
          (arith, c.take.ensures.closed, last-then c.loop-behind.left c.in_ok-behind.behind c.in-Some.row given_row);
      few = few-then c.loop-behind.left c.in_ok-behind.behind c.in-Some.row given_row;
    }

pub loop-behind-smaller : goal.loop-behind-smaller
loop-behind-smaller c = grind arith
