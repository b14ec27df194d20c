use Rattle.std.proofs.Common.{◌≡◌, [], false, map, take}
use Rattle.pb_audit.specs.Inside.Folders.{files_of}
use Rattle.pb_audit.specs.Reports.{HasTaken}
use Rattle.pb_audit.proofs.folder.folder_text.Given as goal

abbrev pub invariant-loop-entry : goal.invariant-loop-entry
invariant-loop-entry l =
    record { as_json : l.report.as_json ≡ false; mode : l.report.mode ≡ l.fn.mode; taken : HasTaken l.report (map files_of (take l.entry-index l.entries)) [] }
