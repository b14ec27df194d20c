use Rattle.std.proofs.Common.{◌≡◌, ◌≤◌, ◌+◌, ◌++◌, ℕ, List, length}
use Rattle.std.specs.Io.KnownBytes.{Appends}
use Rattle.pb_records.proofs.loading.put.Given as goal

abbrev pub invariant-loop-rest : goal.invariant-loop-rest
invariant-loop-rest g l =
    (written : List ℕ) × (l.bytes ≡ written ++ l.rest)
    × Appends (g.W.Sink.holds l.initial.sink) (g.W.Sink.holds l.sink) written
    × ((g.W.Sink.counts l.sink).writes ≤ (g.W.Sink.counts l.initial.sink).writes + length written)
    × ((g.W.Sink.counts l.sink).failures ≡ (g.W.Sink.counts l.initial.sink).failures)
    × ((g.W.Sink.counts l.sink).flushes ≡ (g.W.Sink.counts l.initial.sink).flushes)

abbrev pub decreases-loop-rest : goal.decreases-loop-rest
decreases-loop-rest g l = length l.rest
