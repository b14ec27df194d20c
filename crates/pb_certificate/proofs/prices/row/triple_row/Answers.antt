use Rattle.pb_certificate.proofs.OnPrices.Rows.{none-stated, row-stated, triple-named}
use Rattle.pb_certificate.proofs.prices.row.triple_row.Goals as goal

pub returns-clause-row : goal.returns-clause-row
returns-clause-row c = λ r h.
    rw (c.row_of.ensures.value, c.voter_numbered-voter.ensures, c.clean.ensures, c.from.ensures)
    (row-stated c.args.election.now r _ _ c.args.triple.third (triple-named c.args.election.now c.args.triple r h))

pub returns-clause-none : goal.returns-clause-none
returns-clause-none c = λ r h.
    rw (c.row_of.ensures.value, c.voter_numbered-voter.ensures, c.clean.ensures, c.from.ensures)
    (none-stated c.args.election.now r _ _ c.args.triple.third (triple-named c.args.election.now c.args.triple r h))
