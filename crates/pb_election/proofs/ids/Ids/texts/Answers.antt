use Rattle.pb_election.proofs.IdLemmas.{distinct-kept}
use Rattle.pb_election.proofs.ids.Ids.texts.Goals as goal

pub returns-in-None-clause-distinct : goal.returns-in-None-clause-distinct
returns-in-None-clause-distinct c =
    rw (← c.self.view_is, c.in-None.is) (distinct-kept c.self.inside.set.keys c.as_slice.ensures.unique)
