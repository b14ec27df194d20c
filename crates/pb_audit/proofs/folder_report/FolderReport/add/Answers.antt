use Rattle.std.proofs.Common.{◌≡◌, ◌++◌, refl, subst, sym, true}
use Rattle.std.specs.Prelude.{string_bytes}
use Rattle.pb_audit.specs.Inside.Folders.{files_of, found_as}
use Rattle.pb_audit.specs.Reports.{EntryFiles, Finds, HasTaken, Progress, lines_of}
use Rattle.pb_records.specs.Records.{Text}
use Rattle.pb_reply.specs.Replies.{AreJsonLines, text_of}
use Rattle.pb_audit.proofs.JsonLines.{one_line_more}
use Rattle.pb_audit.proofs.Reports.{takes_more}
use Rattle.pb_audit.proofs.folder_report.FolderReport.add.Goals as goal

pub returns-clause-taken : goal.returns-clause-taken
returns-clause-taken c = λ entries written taken.
    let found = c.in_ok-found.found in
    let text =
    subst (λ (n : Text). string_bytes c.push_entry.new.text
    ≡ string_bytes c.self.inside.text ++ text_of (lines_of c.self.inside.as_json (found_as n found)))
    c.deref.ensures c.in_ok-push_entry.ensures.text in
    let finds =
    subst (λ (f : EntryFiles). Finds c.self.inside.mode f (found_as f.name found)) c.lent.ensures c.in_ok-found.ensures in
    takes_more
    (record
    { as_json = c.self.inside.as_json; mode = c.self.inside.mode; text = string_bytes c.self.inside.text; endings = c.self.inside.endings.items })
    (record {
      as_json = c.self.inside.as_json;
      mode = c.self.inside.mode;
      text = string_bytes c.push_entry.new.text;
      endings = c.push_endings.new.endings.items;
    })
    entries written (files_of c.args.entry.now) (found_as (string_bytes c.args.entry.now.name) found) refl refl text
    c.in_ok-push_endings.ensures finds
    (subst (λ (p : Progress). HasTaken p entries written) (sym c.self.view_is) taken)

pub returns-clause-json : goal.returns-clause-json
returns-clause-json c = λ is are.
    one_line_more (string_bytes c.self.inside.text) (string_bytes c.push_entry.new.text)
    (subst (λ (p : Progress). AreJsonLines p.text) (sym c.self.view_is) are)
    (c.in_ok-push_entry.ensures.json (subst (λ (p : Progress). p.as_json ≡ true) (sym c.self.view_is) is))
