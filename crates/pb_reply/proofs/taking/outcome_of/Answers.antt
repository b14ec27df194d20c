use Rattle.std.proofs.Common.{ap}
use Rattle.std.specs.Prelude.{option_map}
use Rattle.pb_reply.specs.Inside.Loaded.{lent}
use Rattle.pb_reply.proofs.Takings.{file_audited}
use Rattle.pb_reply.proofs.taking.outcome_of.Goals as goal

pub returns-in-Some-clause-taken : goal.returns-in-Some-clause-taken
returns-in-Some-clause-taken c = file_audited _ _ _ _ (ap (option_map lent) c.in-Some.is) c.outcome_in.ensures.taken
