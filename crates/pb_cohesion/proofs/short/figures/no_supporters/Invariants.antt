use Rattle.std.proofs.Common.{◌≡◌, ◌+◌, ◌<◌, ℕ, [], length}
use Rattle.std.specs.Prelude.{slice_index_or}
use Rattle.pb_certificate.specs.declared.violations.measure.Measure.{Measure}
use Rattle.pb_cohesion.specs.Inside.Counting.{Stand}
use Rattle.pb_cohesion.specs.declared.GroupFigures.{GroupFigures}
use Rattle.pb_cohesion.proofs.short.figures.no_supporters.Given as goal

abbrev pub invariant-loop-k : goal.invariant-loop-k
invariant-loop-k l = (length l.figures.items ≡ l.k)
    × ((m : Measure) (k : ℕ) (d : GroupFigures) → k < l.k
    → Stand m l.election (k + 1) [] (slice_index_or l.figures.items k d))
