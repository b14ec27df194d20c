use Rattle.std.proofs.Common.{◌∙◌}
use Rattle.pb_election.proofs.IdLemmas.{place-kept}
use Rattle.pb_election.proofs.ids.Ids.search.Goals as goal

pub returns-in_err-index-in-None-clause-value : goal.returns-in_err-index-in-None-clause-value
returns-in_err-index-in-None-clause-value c =
    rw (← c.self.view_is, c.in-None.is)
    (c.from_residual.ensures
    ∙ place-kept c.self.inside.set.keys c.args.id.now _ c.in_err-index-in-None.ensures.index)

pub returns-in_ok-index-in-None-clause-value : goal.returns-in_ok-index-in-None-clause-value
returns-in_ok-index-in-None-clause-value c =
    rw (← c.self.view_is, c.in-None.is)
    (place-kept c.self.inside.set.keys c.args.id.now _ c.in_ok-index-in-None.ensures.index)
