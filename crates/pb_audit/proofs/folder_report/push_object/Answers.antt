use Rattle.std.proofs.Common.{◌≡◌, ◌∷◌, ◌++◌, [], subst}
use Rattle.std.proofs.lemmas.Result.{on_ok_weaker}
use Rattle.std.specs.Prelude.{string_bytes}
use Rattle.pb_records.specs.Records.{Text}
use Rattle.pb_reply.specs.Replies.{text_of}
use Rattle.pb_audit.proofs.folder_report.push_object.Goals as goal

pub returns-clause-json : goal.returns-clause-json
returns-clause-json c = on_ok_weaker c.push_line.result
    (λ added. record {
      line = string_bytes c.in_ok-line.line;
      json = (_, c.in_ok-line.ensures.reads_back);
      added = subst (λ (l : Text). string_bytes c.push_line.new.text ≡ string_bytes c.args.text.now ++ text_of (l ∷ [])) c.deref.ensures added;
    }) c.push_line.ensures
