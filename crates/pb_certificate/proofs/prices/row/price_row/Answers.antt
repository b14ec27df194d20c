use Rattle.std.proofs.Common.{◌∙◌, ap, sym}
use Rattle.std.specs.Prelude.{is_none}
use Rattle.csv.specs.Records.{fields_of}
use Rattle.pb_certificate.specs.Fields.{project_in, voter_in, whole_in}
use Rattle.pb_certificate.specs.Prices.Text.{numerator_of}
use Rattle.pb_certificate.proofs.Numbers.{digits-were, voter-was}
use Rattle.pb_certificate.proofs.OnPrices.Rows.{Named, none-stated, row-stated}
use Rattle.pb_certificate.proofs.prices.row.price_row.Goals.{After-row_of}
use Rattle.pb_certificate.proofs.prices.row.price_row.Goals as goal

-- the voter and the project that the row names, if any
names : (c : After-row_of)
    → Named c.args.election.now (fields_of c.args.row.now) c.in_ok-voter.voter (project_in c.args.election.now c.cell-2.result.now)
    c.in_ok-payment.payment
names c =
    let e = c.args.election.now in
    let f = c.cell.result.now in
    record {
      three = sym c.has_three_fields.ensures ∙ c.if-not-has_three_fields.false;
      digits = ap (λ f. is_none (whole_in f)) (sym c.cell.ensures)
          ∙ digits-were c.in_ok-voter.voter f e (whole_in f) c.in_ok-voter.ensures;
      of_voter = ap (voter_in e) (sym c.cell.ensures) ∙ sym (voter-was c.in_ok-voter.voter f e (whole_in f) c.in_ok-voter.ensures);
      of_project = ap (project_in e) (sym c.cell-2.ensures);
      payment = ap numerator_of (sym c.cell-payment.ensures) ∙ sym c.whole_within.ensures.value ∙ c.in_ok-payment.ensures.ok_part;
    }

pub returns-clause-row : goal.returns-clause-row
returns-clause-row c =
    rw c.row_of.ensures.value
    (row-stated c.args.election.now (fields_of c.args.row.now) _ _ c.in_ok-payment.payment (names c))

pub returns-clause-none : goal.returns-clause-none
returns-clause-none c =
    rw c.row_of.ensures.value
    (none-stated c.args.election.now (fields_of c.args.row.now) _ _ c.in_ok-payment.payment (names c))
