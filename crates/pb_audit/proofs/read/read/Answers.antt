use Rattle.std.proofs.Common.{Option, subst}
use Rattle.std.specs.Prelude.{IfSome}
use Rattle.std.proofs.lemmas.Result.{IfOk-weaker}
use Rattle.pb_reply.specs.Replies.{Reply}
use Rattle.pb_reply.specs.Turns.{turn}
use Rattle.pb_audit.specs.InTurn.{ReadsElection}
use Rattle.pb_audit.proofs.read.read.Goals as goal

pub returns-clause-told : goal.returns-clause-told
returns-clause-told g c =
    let is_reply = ReadsElection (turn g.G.Given.delivers c.args.election.now c.read_in_turn-work.new.election) in
    let of = subst (λ (o : Option Reply). IfSome o is_reply) c.in_ok-reply.ensures c.read_in_turn-work.ensures in
    IfOk-weaker c.answer_as.result _ _ (λ answer is. record { reply = c.in_ok-reply.reply; of_inputs = of; out = is })
    c.answer_as.ensures.text
