use Rattle.std.proofs.Common.{◌≡◌, refl, rules, subst}
use Rattle.std.specs.Prelude.{Err}
use Rattle.pb_election.specs.Instance.{Instance}
use Rattle.pb_reply.specs.Turns.{file_turn, turn}
use Rattle.pb_audit.specs.Figured.{IsFiguredReply}
use Rattle.pb_audit.proofs.Audits.{memory_told}
use Rattle.pb_audit.proofs.FallingShort.{figured_answered, figured_ended_at_election, figured_ended_at_outcome}
use Rattle.pb_audit.proofs.figured.figured_in_turn.Goals as goal

pub returns-in_err-election : goal.returns-in_err-election
returns-in_err-election g c =
    let is : c.from_residual.result ≡ Err c.in_err-election.field-0.0 = search rules in
    rw is (
    figured_ended_at_election (g.A.FigureAudit.rules c.args.audit.now)
    (turn g.E.Given.delivers c.args.election.now c.take_election.new.input)
    (file_turn g.O.Given.delivers c.args.outcome.now c.args.outcome.now)
    c.in_err-election.field-0.0 c.in_err-election.ensures refl
    )

pub returns-in_err-decided : goal.returns-in_err-decided
returns-in_err-decided g c =
    let is : c.from_residual-in_err-decided.result ≡ Err c.in_err-decided.field-0.0 = search rules in
    rw is (
    figured_ended_at_outcome (g.A.FigureAudit.rules c.args.audit.now)
    (turn g.E.Given.delivers c.args.election.now c.take_election.new.input)
    (file_turn g.O.Given.delivers c.args.outcome.now c.take_decided.new.input)
    c.in_ok-election.election c.in_err-decided.field-0.0 c.in_ok-election.ensures c.in_err-decided.ensures.taken
    )

pub returns : goal.returns
returns g c =
    let told = c.in_ok-told_of.ensures in (
      told.0,
      (
        figured_answered (g.A.FigureAudit.rules c.args.audit.now) _ _ _ _ told.0 c.in_ok-election.ensures
            c.in_ok-decided.ensures.taken
            (subst (λ (e : Instance). IsFiguredReply (g.A.FigureAudit.rules c.args.audit.now) e
            c.in_ok-decided.decided.outcome.marks told.0) c.in_ok-decided.ensures.election told.1.0),
        told.1.1,
      ),
    )

pub returns-in_err-push_limit_note : goal.returns-in_err-push_limit_note
returns-in_err-push_limit_note g c = rw (memory_told _ _ c.from_residual-in_err-push_limit_note.ensures) tt

pub returns-in_err-told_of : goal.returns-in_err-told_of
returns-in_err-told_of g c = rw (memory_told _ _ c.from_residual-in_err-told_of.ensures) tt
