use Rattle.pb_reply.specs.Inside.Loaded.{lent}
use Rattle.pb_page.proofs.Tells.{tells-certificate}
use Rattle.pb_page.proofs.telling.told_of.Goals as goal

pub returns-clause-told : goal.returns-clause-told
returns-clause-told c =
    tells-certificate c.args.mode c.args.decided.now.election c.args.decided.now.outcome.marks (lent c.args.certificate)
    c.in_ok-found.found c.in_ok-told_by.field-0 c.in_ok-found.ensures.taken c.in_ok-told_by.ensures.told
