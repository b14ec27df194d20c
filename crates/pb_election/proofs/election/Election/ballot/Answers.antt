use Rattle.std.proofs.Common.{arith}
use Rattle.std.proofs.lemmas.Grind.{common_steps}
use Rattle.pb_election.proofs.Elections.{ballot_is}
use Rattle.pb_election.proofs.election.Election.ballot.Goals as goal

pub returns-clause-rising : goal.returns-clause-rising
returns-clause-rising c = grind (arith, common_steps, ballot_is)
