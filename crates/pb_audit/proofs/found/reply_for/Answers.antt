use Rattle.std.proofs.Common.{subst, Option}
use Rattle.std.specs.Prelude.{IfSome, None, Result}
use Rattle.std.proofs.lemmas.Result.{IfOk-weaker}
use Rattle.pb_election.specs.Outcome.{Decided}
use Rattle.pb_reply.specs.Inside.Loaded.{lent}
use Rattle.pb_reply.specs.Inside.Taking.{AuditsOutcome, IfTaken, decided_as}
use Rattle.pb_reply.specs.Replies.{Reply}
use Rattle.pb_reply.specs.declared.unanswered.Unanswered.{Unanswered}
use Rattle.pb_audit.specs.Answers.{AnswersAudit}
use Rattle.pb_audit.proofs.Audits.{stopped_at_outcome}
use Rattle.pb_audit.proofs.found.reply_for.Goals as goal

pub returns-in-Err : goal.returns-in-Err
returns-in-Err g c = λ file e given decided.
    let rules = g.A.Audit.rules c.args.audit.now in
    let taken = subst (λ (d : Result Decided Unanswered). IfTaken (decided_as d) (AuditsOutcome e None)) c.in-Err.is
    decided.outcome in
    IfOk-weaker c.reply_why.result _ _
    (λ r told. subst (λ (o : Option Reply). IfSome o (AnswersAudit rules file None (lent c.args.certificate))) told
    (stopped_at_outcome rules file (lent c.args.certificate) e _ given taken))
    c.reply_why.ensures
