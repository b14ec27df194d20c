use Rattle.std.proofs.Common.{subst, sym}
use Rattle.std.proofs.lemmas.Result.{err_from_is_err_and}
use Rattle.pb_certificate.specs.Faults.{certificate_records}
use Rattle.pb_certificate.specs.Prices.Text.{IsPriceText}
use Rattle.pb_certificate.proofs.OnPrices.GatherSteps.{gathering-refused, prices-by, runs-state, text-refused}
use Rattle.pb_certificate.proofs.OnPrices.Texts.{states-prices}
use Rattle.pb_certificate.proofs.Unique.{price-text-same}
use Rattle.pb_certificate.proofs.prices.Prices.read.Goals as goal

pub returns-in_err-rows-clause-only : goal.returns-in_err-rows-clause-only
returns-in_err-rows-clause-only c = λ p text. (
    let err = err_from_is_err_and c.from_residual.result c.from_residual.ensures.1 in
    rw (err.1, err.2)
    (text-refused (certificate_records c.args.bytes.now) c.args.election.now p c.in_err-rows.field-0.0 text
    c.in_err-rows.ensures.refused)
    )

pub returns-in_err-gather-clause-only : goal.returns-in_err-gather-clause-only
returns-in_err-gather-clause-only c = λ p text. (
    let err = err_from_is_err_and c.from_residual-in_err-gather.result c.from_residual-in_err-gather.ensures.1 in
    rw (err.1, err.2)
    (gathering-refused (certificate_records c.args.bytes.now) c.args.election.now p c.in_ok-rows.rows
    c.in_err-gather.field-0.0 text c.in_ok-rows.ensures.election c.in_ok-rows.ensures.records
    c.in_err-gather.ensures.refused)
    )

pub new-requires-2 : goal.new-requires-2
new-requires-2 c =
    let e = c.args.election.now in
    let recs = certificate_records c.args.bytes.now in
    let text =
    runs-state recs e c.in_ok-rows.rows c.projects.result c.denominator-denominator.result c.budget-budget.result
    c.gather.new.sink c.in_ok-gather.ensures.all c.in_ok-rows.ensures.election
    c.in_ok-rows.ensures.records c.projects.ensures.value c.denominator-denominator.ensures.value
    c.budget-budget.ensures.value in
    (states-prices recs e
    (prices-by c.projects.result c.denominator-denominator.result c.budget-budget.result c.gather.new.sink)
    text).system

pub returns-clause-found : goal.returns-clause-found
returns-clause-found c =
    let e = c.args.election.now in
    let recs = certificate_records c.args.bytes.now in
    let text =
    runs-state recs e c.in_ok-rows.rows c.projects.result c.denominator-denominator.result c.budget-budget.result
    c.gather.new.sink c.in_ok-gather.ensures.all c.in_ok-rows.ensures.election
    c.in_ok-rows.ensures.records c.projects.ensures.value c.denominator-denominator.ensures.value
    c.budget-budget.ensures.value in
    subst (IsPriceText recs e) (sym c.new-2.ensures) text

pub returns-clause-sound : goal.returns-clause-sound
unfolding returns-clause-found
returns-clause-sound c =
    states-prices (certificate_records c.args.bytes.now) c.args.election.now c.new-2.result (returns-clause-found c)

pub returns-clause-only : goal.returns-clause-only
unfolding returns-clause-found
returns-clause-only c =
    λ p stated.
    (price-text-same (certificate_records c.args.bytes.now) c.args.election.now c.new-2.result p
    (returns-clause-found c) stated)
