use Rattle.std.proofs.Common.{◌≡◌, ◌≤◌, ◌+◌, ◌-◌, length, vec_len}
use Rattle.std.specs.Io.KnownBytes.{Consumes}
use Rattle.pb_records.proofs.loading.load.Given as goal

abbrev pub invariant-loop-count : goal.invariant-loop-count
invariant-loop-count g l =
    Consumes (g.R.Source.left l.initial.source) (g.R.Source.left l.source) l.bytes.items
    × (length l.bytes.items ≤ l.most)
    × ((g.R.Source.counts l.source).failures ≡ (g.R.Source.counts l.initial.source).failures)
    × ((g.R.Source.counts l.source).reads ≤ (g.R.Source.counts l.initial.source).reads + length l.bytes.items)

abbrev pub decreases-loop-count : goal.decreases-loop-count
decreases-loop-count g l = l.most - vec_len l.bytes
