use Rattle.std.proofs.Common.{take, not}
use Rattle.std.specs.Prelude.{◌&&◌}
use Rattle.pb_election.specs.Outcome.{has}
use Rattle.pb_cohesion.specs.Inside.Counting.{AreChanged, with_supporter}
use Rattle.pb_cohesion.proofs.Sums.{among}
use Rattle.pb_cohesion.proofs.short.figures.count_voter.Given as goal

abbrev pub invariant-loop-c : goal.invariant-loop-c
invariant-loop-c l =
    AreChanged (λ c. among (take l.c-index l.c-items) c && not (has l.outcome.marks c))
    (with_supporter l.measure l.election l.got) l.initial.figures l.figures
