use Rattle.std.proofs.Common.{rules}
use Rattle.pb_records.proofs.FlatRuns.{runs-total}
use Rattle.pb_records.proofs.ragged_array.RaggedArray.total_len.Goals as goal

pub returns : goal.returns
returns g c = rw (← c.self.view_is, runs-total c.self.inside.starts.items c.self.inside.entries.items c.self.invariant)
    (search rules)
