use Rattle.std.proofs.lemmas.Result.{IfOk-weaker}
use Rattle.pb_reply.specs.Turns.{file_turn, turn}
use Rattle.pb_audit.specs.Figured.{ReadsFigured}
use Rattle.pb_audit.proofs.Audits.{or_refusal_told}
use Rattle.pb_audit.proofs.figured.figured_as.Goals as goal

pub returns-clause-told : goal.returns-clause-told
returns-clause-told g c =
    let is_reply = ReadsFigured (g.A.FigureAudit.rules c.args.audit.now)
    (turn g.E.Given.delivers c.args.election.now c.figured_in_turn-work.new.election)
    (file_turn g.O.Given.delivers c.args.outcome.now c.figured_in_turn-work.new.outcome) in
    let told = or_refusal_told g.A.Told.FromReply.told is_reply _ _ c.in_ok-told.ensures c.figured_in_turn-work.ensures in
    IfOk-weaker c.in_format.result _ _ (λ answer is. record { reply = told.0; of_inputs = told.1.0; out = is })
    (c.in_format.ensures.text told.0 told.1.1)
