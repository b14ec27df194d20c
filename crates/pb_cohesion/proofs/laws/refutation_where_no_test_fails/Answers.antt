use Rattle.pb_cohesion.proofs.Refuted.{refutes-iff, refutes_stable-iff}
use Rattle.pb_cohesion.proofs.laws.refutation_where_no_test_fails.Goals as goal

pub returns-clause-all : goal.returns-clause-all
returns-clause-all c = refutes-iff

pub returns-clause-stable : goal.returns-clause-stable
returns-clause-stable c = refutes_stable-iff
