use Rattle.std.proofs.Common.{◌≡◌, ◌∷◌, Err, rules, string_bytes}
use Rattle.std.specs.BTreeSet.{IsOrdered}
use Rattle.std.specs.String.{string_cmp}
use Rattle.pb_reply.specs.declared.status.Fault.TheVariants as fault
use Rattle.pb_run.proofs.Ahead.{ended_at_entry, ended_by_memory, entry_taken}
use Rattle.pb_run.proofs.folder.rest_of_report.Goals as goal

pub loop-name-preserved : goal.loop-name-preserved
loop-name-preserved g c =
    let step : c.loop-name.name-iterator ≡ c.in-Some.name.now ∷ c.next.new.self = search rules in
    let shown : c.deref-in-loop-name.result.now ≡ string_bytes c.in-Some.name.now = search rules in
    entry_taken _ _ _ _ _ _ _ _ _ c.in-Some.name.now _ _ _ _ _ _ _ _ _ step shown c.loop-name.invariant
    c.in_ok-report.ensures.taken

pub returns-in_err-report : goal.returns-in_err-report
returns-in_err-report g c =
    let step : c.loop-name.name-iterator ≡ c.in-Some.name.now ∷ c.next.new.self = search rules in
    let shown : c.deref-in-loop-name.result.now ≡ string_bytes c.in-Some.name.now = search rules in
    let ordered : IsOrdered string_cmp c.args.listing.now.elections = search rules in
    let was : c.take_entry.result ≡ Err c.in_err-report.field-0.0 = search rules in
    let is : c.from_residual.result ≡ Err c.in_err-report.field-0.0 = search rules in
    rw is
    (ended_at_entry _ _ _ _ _ _ _ _ _ c.in-Some.name.now _ _ c.in_err-report.field-0.0 _ _ _ _ _ _ ordered step shown
    c.loop-name.invariant (rw was at c.take_entry.ensures))

pub returns-in_err-finish : goal.returns-in_err-finish
returns-in_err-finish g c =
    let ordered : IsOrdered string_cmp c.args.listing.now.elections = search rules in
    let is : c.from_residual-in_err-finish.result ≡ Err fault.Memory = search rules in
    rw is (ended_by_memory _ _ _ _ _ _ _ _ _ _ _ _ _ _ ordered c.loop-name.invariant)
