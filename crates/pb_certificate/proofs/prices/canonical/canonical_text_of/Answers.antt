use Rattle.std.proofs.Common.{◌∙◌, ap}
use Rattle.std.proofs.lemmas.Result.{err_from_is_err_and}
use Rattle.pb_certificate.specs.Prices.Canon.{Canon}
use Rattle.pb_certificate.specs.Inside.Prices.CanonicalDrafts.{HasWritten}
use Rattle.pb_certificate.specs.Faults.{certificate_records}
use Rattle.pb_certificate.proofs.OnPrices.GatherSteps.{gathering-refused, states-all, text-refused}
use Rattle.pb_certificate.proofs.OnPrices.Texts.{states-prices}
use Rattle.pb_certificate.proofs.Unique.{price-text-same}
use Rattle.pb_certificate.proofs.prices.canonical.canonical_text_of.Goals as goal

pub returns-in_err-rows-clause-only : goal.returns-in_err-rows-clause-only
returns-in_err-rows-clause-only c = λ p text. (
    let err = err_from_is_err_and c.from_residual.result c.from_residual.ensures.1 in
    rw (err.1, err.2)
    (text-refused (certificate_records c.args.bytes.now) c.args.election.now p c.in_err-rows.field-0.0 text
    c.in_err-rows.ensures.refused)
    )

pub returns-in_err-gather-clause-only : goal.returns-in_err-gather-clause-only
returns-in_err-gather-clause-only c = λ p text. (
    let err = err_from_is_err_and c.from_residual-in_err-gather.result c.from_residual-in_err-gather.ensures.1 in
    rw (err.1, err.2)
    (gathering-refused (certificate_records c.args.bytes.now) c.args.election.now p c.in_ok-rows.rows
    c.in_err-gather.field-0.0 text c.in_ok-rows.ensures.election c.in_ok-rows.ensures.records
    c.in_err-gather.ensures.refused)
    )

pub returns-clause-found : goal.returns-clause-found
returns-clause-found c =
    let e = c.args.election.now in
    let recs = certificate_records c.args.bytes.now in
    let gathered = c.in_ok-gather.ensures.all in
    let states =
    states-all recs e c.in_ok-rows.rows (HasWritten c.gather.new.sink) gathered c.in_ok-rows.ensures.election
    c.in_ok-rows.ensures.records in
    record {
      prices = gathered.prices;
      states = states.0;
      is = c.in_ok-text.ensures e gathered.prices states.1 (states-prices recs e gathered.prices states.0).fits;
    }

pub returns-clause-only : goal.returns-clause-only
unfolding returns-clause-found
returns-clause-only c = λ p stated. (
    let found = returns-clause-found c in
    found.is
    ∙ ap (Canon c.args.election.now)
    (price-text-same (certificate_records c.args.bytes.now) c.args.election.now found.prices p found.states stated)
    )
