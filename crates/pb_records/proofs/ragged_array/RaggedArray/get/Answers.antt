use Rattle.std.proofs.Common.{rules, arith, length}
use Rattle.pb_records.proofs.FlatRuns.{run-at, runs-length}
use Rattle.pb_records.proofs.ragged_array.RaggedArray.get.Goals as goal

pub index-requires : goal.index-requires
index-requires g c =
    let starts = c.self.inside.starts.items in
    let entries = c.self.inside.entries.items in
    let within = rw (← c.self.view_is) at c.requires in
    omega (arith, within, runs-length starts (length entries) entries c.self.invariant)

pub overflow_add-place : goal.overflow_add-place
overflow_add-place g c =
    let starts = c.self.inside.starts.items in
    let entries = c.self.inside.entries.items in
    let long = runs-length starts (length entries) entries c.self.invariant in
    search (rules, long)

pub index-requires-2 : goal.index-requires-2
index-requires-2 g c =
    let starts = c.self.inside.starts.items in
    let entries = c.self.inside.entries.items in
    let within = rw (← c.self.view_is) at c.requires in
    omega (arith, within, runs-length starts (length entries) entries c.self.invariant)

pub offset_bounds-deref-start : goal.offset_bounds-deref-start
offset_bounds-deref-start g c =
    let within = rw (← c.self.view_is) at c.requires in
    let run = run-at c.self.inside.starts.items c.self.inside.entries.items c.args.place c.index.result.now
    c.index-2.result.now c.self.invariant within c.index.ensures c.index-2.ensures in
    search rules

pub slice_bounds-result-count : goal.slice_bounds-result-count
slice_bounds-result-count g c =
    let within = rw (← c.self.view_is) at c.requires in
    let run = run-at c.self.inside.starts.items c.self.inside.entries.items c.args.place c.index.result.now
    c.index-2.result.now c.self.invariant within c.index.ensures c.index-2.ensures in
    search rules

pub slice_bounds-result-start : goal.slice_bounds-result-start
slice_bounds-result-start g c =
    let within = rw (← c.self.view_is) at c.requires in
    let run = run-at c.self.inside.starts.items c.self.inside.entries.items c.args.place c.index.result.now
    c.index-2.result.now c.self.invariant within c.index.ensures c.index-2.ensures in
    search rules

pub slice_bounds-result-end : goal.slice_bounds-result-end
slice_bounds-result-end g c =
    let within = rw (← c.self.view_is) at c.requires in
    let run = run-at c.self.inside.starts.items c.self.inside.entries.items c.args.place c.index.result.now
    c.index-2.result.now c.self.invariant within c.index.ensures c.index-2.ensures in
    search rules

pub returns : goal.returns
returns g c = grind (arith, run-at)
