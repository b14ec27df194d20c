use Rattle.std.proofs.Common.{◌≡◌, refl, rules, subst}
use Rattle.std.specs.Prelude.{Err}
use Rattle.pb_election.specs.Instance.{Instance}
use Rattle.pb_records.specs.Loading.{Delivery}
use Rattle.pb_reply.specs.Inside.Loaded.{lent}
use Rattle.pb_reply.specs.Turns.{file_turn, turn}
use Rattle.pb_audit.specs.Inside.Certificates.{AnswersCertificate, IfTold}
use Rattle.pb_audit.proofs.Audits.{answer_settled, ended_at_election, ended_at_outcome, memory_told}
use Rattle.pb_audit.proofs.auditing.audit_in_turn.Goals as goal

pub returns-in_err-election : goal.returns-in_err-election
returns-in_err-election g c =
    let is : c.from_residual.result ≡ Err c.in_err-election.field-0.0 = search rules in
    rw is (
    ended_at_election (g.A.Audit.rules c.args.audit.now)
    (turn g.E.Given.delivers c.args.election.now c.take_election.new.input)
    (file_turn g.O.Given.delivers c.args.outcome.now c.args.outcome.now)
    (turn g.C.Given.delivers c.args.certificate.now c.args.certificate.now)
    c.in_err-election.field-0.0 c.in_err-election.ensures refl refl
    )

pub returns-in_err-decided : goal.returns-in_err-decided
returns-in_err-decided g c =
    let is : c.from_residual-in_err-decided.result ≡ Err c.in_err-decided.field-0.0 = search rules in
    rw is (
    ended_at_outcome (g.A.Audit.rules c.args.audit.now)
    (turn g.E.Given.delivers c.args.election.now c.take_election.new.input)
    (file_turn g.O.Given.delivers c.args.outcome.now c.take_decided.new.input)
    (turn g.C.Given.delivers c.args.certificate.now c.args.certificate.now)
    c.in_ok-election.election c.in_err-decided.field-0.0 c.in_ok-election.ensures c.in_err-decided.ensures.taken refl
    )

pub returns : goal.returns
returns g c =
    answer_settled (g.A.Audit.rules c.args.audit.now) _
    c.reply_on.ensures.promised _ _ _ _ _ _ _
    c.in_ok-election.ensures c.in_ok-decided.ensures.taken c.in_ok-certificate.ensures
    (subst
    (λ (d : Delivery). IfTold g.A.Told.FromReply.told
    (AnswersCertificate (g.A.Audit.rules c.args.audit.now).states (g.A.Audit.rules c.args.audit.now).reply
    c.in_ok-election.election
    c.in_ok-decided.decided.outcome.marks d) c.reply_on.result) c.as_file.ensures
    (subst
    (λ (e : Instance). IfTold g.A.Told.FromReply.told
    (AnswersCertificate (g.A.Audit.rules c.args.audit.now).states (g.A.Audit.rules c.args.audit.now).reply
    e c.in_ok-decided.decided.outcome.marks (lent c.as_file.result)) c.reply_on.result) c.in_ok-decided.ensures.election
    c.reply_on.ensures.reply))

pub returns-in_err-certificate : goal.returns-in_err-certificate
returns-in_err-certificate g c = rw (memory_told _ _ c.from_residual-in_err-certificate.ensures) tt
