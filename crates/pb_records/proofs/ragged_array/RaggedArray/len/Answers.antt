use Rattle.std.proofs.Common.{arith, length}
use Rattle.pb_records.proofs.FlatRuns.{runs-length}
use Rattle.pb_records.proofs.ragged_array.RaggedArray.len.Goals as goal

pub returns : goal.returns
returns g c =
    let starts = c.self.inside.starts.items in
    let entries = c.self.inside.entries.items in
    rw (← c.self.view_is) (omega (arith, runs-length starts (length entries) entries c.self.invariant))
