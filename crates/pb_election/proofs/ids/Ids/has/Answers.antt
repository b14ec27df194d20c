use Rattle.std.proofs.Common.{◌∙◌}
use Rattle.pb_election.proofs.IdLemmas.{found-among}
use Rattle.pb_election.proofs.ids.Ids.has.Goals as goal

pub returns-in-None : goal.returns-in-None
returns-in-None c =
    rw (← c.self.view_is, c.in-None.is)
    (c.contains.ensures ∙ found-among c.self.inside.set.keys c.args.id.now)
