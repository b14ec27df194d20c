use Rattle.pb_reply.specs.Inside.Loaded.{lent}
use Rattle.pb_audit.proofs.Explained.{explained_found}
use Rattle.pb_audit.proofs.explain.explained.Goals as goal

pub returns-clause-reply : goal.returns-clause-reply
returns-clause-reply c =
    explained_found c.args.mode c.args.decided.now.election c.args.decided.now.outcome.marks (lent c.args.certificate)
    c.in_ok-found.found _ c.in_ok-found.ensures.taken c.explaining.ensures
