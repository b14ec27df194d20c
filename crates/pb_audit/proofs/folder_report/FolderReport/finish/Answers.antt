use Rattle.std.proofs.Common.{◌≡◌, rules, subst, sym, true}
use Rattle.std.specs.Prelude.{string_bytes}
use Rattle.pb_records.specs.Records.{Text}
use Rattle.pb_reply.specs.Replies.{AreJsonLines}
use Rattle.pb_audit.specs.Reports.{Progress}
use Rattle.pb_audit.proofs.JsonLines.{one_line_more}
use Rattle.pb_audit.proofs.folder_report.FolderReport.finish.Goals as goal

pub returns-clause-json : goal.returns-clause-json
returns-clause-json c = λ is are.
    let text : c.into_bytes.result.items ≡ string_bytes c.push.new.text = search rules in
    subst (λ (t : Text). AreJsonLines t) (sym text)
    (one_line_more (string_bytes c.self.inside.text) (string_bytes c.push.new.text)
    (subst (λ (p : Progress). AreJsonLines p.text) (sym c.self.view_is) are)
    (c.in_ok-push.ensures.json (subst (λ (p : Progress). p.as_json ≡ true) (sym c.self.view_is) is)))
