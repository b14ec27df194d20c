use Rattle.std.proofs.Common.{Option, subst}
use Rattle.std.specs.Prelude.{IfSome}
use Rattle.std.proofs.lemmas.Result.{IfOk-weaker}
use Rattle.pb_reply.specs.Replies.{Reply}
use Rattle.pb_reply.specs.Turns.{file_turn, turn}
use Rattle.pb_audit.specs.Both.{ReadsBoth}
use Rattle.pb_audit.proofs.both.both.Goals as goal

pub returns-clause-told : goal.returns-clause-told
returns-clause-told g c =
    let is_reply = ReadsBoth c.args.mode
    (turn g.E.Given.delivers c.args.election.now c.both_in_turn-work.new.election)
    (file_turn g.O.Given.delivers c.args.outcome.now c.both_in_turn-work.new.outcome)
    (turn g.P.Given.delivers c.args.prices.now c.both_in_turn-work.new.prices)
    (turn g.V.Given.delivers c.args.violation.now c.both_in_turn-work.new.violation) in
    let of = subst (λ (o : Option Reply). IfSome o is_reply) c.in_ok-reply.ensures c.both_in_turn-work.ensures in
    IfOk-weaker c.answer_as.result _ _ (λ answer is. record { reply = c.in_ok-reply.reply; of_inputs = of; out = is })
    c.answer_as.ensures.text
