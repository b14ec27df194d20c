use Rattle.std.proofs.Common.{[], map, take, take_all}
use Rattle.pb_audit.specs.Inside.Folders.{files_of}
use Rattle.pb_audit.proofs.Reports.{whole_report}
use Rattle.pb_audit.proofs.folder.folder_text.Goals as goal

pub returns : goal.returns
returns c =
    let all = take_all c.loop-entry.entry-index c.args.entries.now c.loop-entry-test.false in
    let ended =
    c.finish.ensures.rest (map files_of (take c.loop-entry.entry-index c.args.entries.now)) []
    c.loop-entry.invariant.taken in
    whole_report c.loop-entry.report c.args.mode (map files_of c.args.entries.now) c.finish.result
    c.loop-entry.invariant.as_json c.loop-entry.invariant.mode (rw all at ended)
