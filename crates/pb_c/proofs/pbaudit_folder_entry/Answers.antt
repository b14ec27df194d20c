use Rattle.std.proofs.Common.{subst}
use Rattle.std.specs.Prelude.{IfSome, Option}
use Rattle.pb_audit.specs.Inside.Folders.{lent_files}
use Rattle.pb_audit.specs.Reports.{EntryFiles}
use Rattle.pb_c.specs.Files.{given_mode}
use Rattle.pb_c.specs.Folders.{ReportsEntry}
use Rattle.pb_c.proofs.Reported.{reported_entry}
use Rattle.pb_c.proofs.pbaudit_folder_entry.Goals as goal

pub returns-clause-entry : goal.returns-clause-entry
returns-clause-entry c =
    subst
    (λ (o : Option EntryFiles). IfSome o (λ files. ReportsEntry (given_mode c.args.stable c.args.exhaustive c.args.cover) files
    c.report_entry.result c.report_entry.new.total c.args.out.now c.report_entry.new.out c.report_entry.new.needed))
    c.in-Some.ensures
    (reported_entry _ (lent_files c.in-Some.entry) c.on.result _ _ _ _ _ c.on.ensures.told c.report_entry.ensures.code
    c.report_entry.ensures.counts c.report_entry.ensures.given c.report_entry.ensures.memory_out)
