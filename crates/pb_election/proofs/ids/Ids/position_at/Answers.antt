use Rattle.std.proofs.Common.{arith}
use Rattle.std.proofs.lemmas.Grind.{common_steps}
use Rattle.std.proofs.lemmas.Option.{slice_get_read}
use Rattle.pb_election.proofs.IdLemmas.{place-at}
use Rattle.pb_election.proofs.ids.Ids.position_at.Goals as goal

pub returns-clause-value : goal.returns-clause-value
returns-clause-value c = grind (arith, common_steps, place-at, slice_get_read)
