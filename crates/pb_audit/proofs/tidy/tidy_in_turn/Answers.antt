use Rattle.std.proofs.Common.{◌≡◌, refl, rules, subst}
use Rattle.std.specs.Prelude.{Err}
use Rattle.pb_records.specs.Loading.{Delivery}
use Rattle.pb_reply.specs.Turns.{turn}
use Rattle.pb_reply.specs.Inside.Taking.{IfTaken}
use Rattle.pb_audit.specs.Inside.Certificates.{TidiesPrices}
use Rattle.pb_audit.proofs.Audits.{tidy_answered, tidy_ended}
use Rattle.pb_audit.proofs.tidy.tidy_in_turn.Goals as goal

pub returns-in_err-election : goal.returns-in_err-election
returns-in_err-election g c =
    let is : c.from_residual.result ≡ Err c.in_err-election.field-0.0 = search rules in
    rw is (
    tidy_ended
    (turn g.E.Given.delivers c.args.election.now c.take_election.new.input)
    (turn g.C.Given.delivers c.args.certificate.now c.args.certificate.now)
    c.in_err-election.field-0.0 c.in_err-election.ensures refl
    )

pub returns : goal.returns
returns g c =
    tidy_answered _ _ _ _ _ c.in_ok-election.ensures c.in_ok-certificate.ensures
    (subst (λ (d : Delivery). IfTaken c.tidied.result (TidiesPrices c.in_ok-election.election d)) c.as_file.ensures
    c.tidied.ensures)
