use Rattle.pb_certificate.specs.Prices.RowFaults.{as_payment}
use Rattle.pb_certificate.proofs.OnPrices.Admitting.{added, repeated, tested, too-many}
use Rattle.pb_certificate.proofs.prices.prior_rows.PriorRows.admit.Goals as goal

pub returns-then-index-row-clause-admits : goal.returns-then-index-row-clause-admits
returns-then-index-row-clause-admits c = λ qs h. (
    let t = c.args.self.now in
    let q = as_payment c.args.row.now in
    let d = tested t q c.index.result.now c.requires.voter c.requires.low_project c.requires.high_project
    c.if-row-self.false c.index.ensures in
    repeated t qs q c.index.result.now h d c.if-index-row.true
    )

pub returns-then-self-ge-MOST_ROWS-clause-admits : goal.returns-then-self-ge-MOST_ROWS-clause-admits
returns-then-self-ge-MOST_ROWS-clause-admits c = λ qs h. (
    let t = c.args.self.now in
    let q = as_payment c.args.row.now in
    let d = tested t q c.index.result.now c.requires.voter c.requires.low_project c.requires.high_project
    c.if-row-self.false c.index.ensures in
    too-many t qs q c.index.result.now h d c.if-index-row.false c.if-self-ge-MOST_ROWS.true
    )

pub returns-clause-admits : goal.returns-clause-admits
returns-clause-admits c = λ qs h. (
    let t = c.args.self.now in
    let q = as_payment c.args.row.now in
    let d = tested t q c.index.result.now c.requires.voter c.requires.low_project c.requires.high_project
    c.if-row-self.false c.index.ensures in
    added t qs q c.index.result.now h d c.if-index-row.false c.if-self-ge-MOST_ROWS.false
    )
