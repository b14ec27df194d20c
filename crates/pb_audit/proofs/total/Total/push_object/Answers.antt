use Rattle.std.proofs.Common.{◌≡◌, ◌∷◌, ◌++◌, [], subst, sym}
use Rattle.std.proofs.lemmas.Result.{on_ok_weaker}
use Rattle.std.specs.Prelude.{string_bytes}
use Rattle.serde_json.specs.Data.{Data}
use Rattle.serde_json.specs.Read.{max_depth}
use Rattle.pb_records.specs.Records.{Text}
use Rattle.pb_json.specs.Texts.{IsPlain}
use Rattle.pb_json.proofs.Plain.{total_is_plain}
use Rattle.pb_reply.specs.Replies.{text_of}
use Rattle.pb_audit.proofs.total.Total.push_object.Goals as goal

pub json_text-requires : goal.json_text-requires
json_text-requires c = subst (λ (d : Data). IsPlain max_depth d) (sym c.in_ok-total.ensures)
    (total_is_plain c.args.self.elections c.args.self.yes c.args.self.no c.args.self.refused)

pub returns-clause-json : goal.returns-clause-json
returns-clause-json c = on_ok_weaker c.push_line.result
    (λ added. record {
      line = string_bytes c.in_ok-line.line;
      json = (_, c.in_ok-line.ensures.reads_back);
      added = subst (λ (l : Text). string_bytes c.push_line.new.text ≡ string_bytes c.args.text.now ++ text_of (l ∷ []))
          c.deref.ensures added;
    }) c.push_line.ensures
