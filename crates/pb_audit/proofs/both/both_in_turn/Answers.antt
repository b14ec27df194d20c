use Rattle.std.proofs.Common.{◌≡◌, refl, rules, subst}
use Rattle.std.specs.Prelude.{Ok, Err, IfSome}
use Rattle.pb_election.specs.Instance.{Instance}
use Rattle.pb_report.specs.Found.{FindsPrices}
use Rattle.pb_report.specs.declared.prices.PricesFound.{PricesFound}
use Rattle.pb_records.specs.Loading.{Delivery}
use Rattle.pb_reply.specs.Inside.Loaded.{lent}
use Rattle.pb_audit.specs.Both.{beside}
use Rattle.pb_reply.specs.Inputs.{StatesViolation}
use Rattle.pb_reply.specs.Turns.{file_turn, turn}
use Rattle.pb_audit.specs.Inside.Certificates.{AnswersCertificate}
use Rattle.pb_reply.specs.Inside.Taking.{Gives, IfTaken, or_refusal}
use Rattle.pb_input.specs.declared.InputName.TheVariants.{Prices, Violation}
use Rattle.pb_audit.proofs.Audits.{memory_told, refusal_told}
use Rattle.pb_audit.proofs.Boths.{both_ended_at_election, both_ended_at_outcome, both_ended_at_prices, both_settled}
use Rattle.pb_audit.proofs.both.both_in_turn.Goals as goal

pub returns-in_err-election : goal.returns-in_err-election
returns-in_err-election g c =
    let is : c.from_residual.result ≡ Err c.in_err-election.field-0.0 = search rules in
    rw is (
    both_ended_at_election c.args.mode
    (turn g.E.Given.delivers c.args.election.now c.take_election.new.input)
    (file_turn g.O.Given.delivers c.args.outcome.now c.args.outcome.now)
    (turn g.P.Given.delivers c.args.prices.now c.args.prices.now)
    (turn g.V.Given.delivers c.args.violation.now c.args.violation.now)
    c.in_err-election.field-0.0 c.in_err-election.ensures refl refl refl
    )

pub returns-in_err-decided : goal.returns-in_err-decided
returns-in_err-decided g c =
    let is : c.from_residual-in_err-decided.result ≡ Err c.in_err-decided.field-0.0 = search rules in
    rw is (
    both_ended_at_outcome c.args.mode
    (turn g.E.Given.delivers c.args.election.now c.take_election.new.input)
    (file_turn g.O.Given.delivers c.args.outcome.now c.take_decided.new.input)
    (turn g.P.Given.delivers c.args.prices.now c.args.prices.now)
    (turn g.V.Given.delivers c.args.violation.now c.args.violation.now)
    c.in_ok-election.election c.in_err-decided.field-0.0 c.in_ok-election.ensures c.in_err-decided.ensures.taken refl
    refl
    )

pub returns-in_err-prices : goal.returns-in_err-prices
returns-in_err-prices g c =
    let is = refusal_told _ _ c.from_residual-in_err-prices.ensures in
    rw is (
    both_ended_at_prices c.args.mode
    (turn g.E.Given.delivers c.args.election.now c.take_election.new.input)
    (file_turn g.O.Given.delivers c.args.outcome.now c.take_decided.new.input)
    (turn g.P.Given.delivers c.args.prices.now c.take_prices.new.prices)
    (turn g.V.Given.delivers c.args.violation.now c.args.violation.now)
    c.in_ok-election.election c.in_ok-decided.decided.outcome.marks c.in_err-prices.field-0.0
    c.in_ok-election.ensures c.in_ok-decided.ensures.taken
    (subst (λ (e : Instance). IfTaken {A = PricesFound} (Err c.in_err-prices.field-0.0)
    (Gives (FindsPrices Prices c.args.mode e c.in_ok-decided.decided.outcome.marks)
    (turn g.P.Given.delivers c.args.prices.now c.take_prices.new.prices))) c.in_ok-decided.ensures.election
    c.in_err-prices.ensures.taken) refl
    )

pub returns : goal.returns
returns g c =
    let w = c.in_ok-decided.decided.outcome.marks in
    let f = c.in_ok-prices.prices in
    both_settled c.args.mode _ _ _ _ _ _ f _ _
    c.in_ok-election.ensures c.in_ok-decided.ensures.taken
    (subst (λ (e : Instance). Gives (FindsPrices Prices c.args.mode e w)
    (turn g.P.Given.delivers c.args.prices.now c.take_prices.new.prices) (Ok f)) c.in_ok-decided.ensures.election
    c.in_ok-prices.ensures.taken)
    c.in_ok-violation.ensures
    (subst
    (λ (d : Delivery). IfSome (or_refusal (λ r. r) c.beside.result)
    (AnswersCertificate (StatesViolation Violation) (beside f.mode f.findings) c.in_ok-election.election w d))
    c.as_file.ensures
    (subst
    (λ (e : Instance). IfSome (or_refusal (λ r. r) c.beside.result)
    (AnswersCertificate (StatesViolation Violation) (beside f.mode f.findings) e w (lent c.as_file.result)))
    c.in_ok-decided.ensures.election c.beside.ensures))

pub returns-in_err-violation : goal.returns-in_err-violation
returns-in_err-violation g c = rw (memory_told _ _ c.from_residual-in_err-violation.ensures) tt
