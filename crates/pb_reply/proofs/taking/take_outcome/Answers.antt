use Rattle.pb_reply.proofs.Takings.{file_given}
use Rattle.pb_reply.proofs.taking.take_outcome.Goals as goal

pub returns-in-Some-clause-taken : goal.returns-in-Some-clause-taken
returns-in-Some-clause-taken g c = file_given g.G.Given.delivers _ _ _ _ _ c.in-Some.is c.take_outcome_file.ensures.taken
