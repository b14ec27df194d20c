use Rattle.std.specs.Prelude.{string_bytes}
use Rattle.std.proofs.lemmas.Result.{on_ok_weaker}
use Rattle.pb_audit.proofs.Texts.{found_text}
use Rattle.pb_audit.proofs.folder_report.push_found.Goals as goal

pub returns : goal.returns
returns c =
    on_ok_weaker c.push_certificate-2.result
    (λ last. found_text c.args.name.now c.args.found.now.read
    c.args.found.now.prices c.args.found.now.violation
    (string_bytes c.args.text.now) (string_bytes c.push_file.new.text) (string_bytes c.push_certificate.new.text)
    (string_bytes c.push_certificate-2.new.text)
    c.in_ok-push_file.ensures c.in_ok-push_certificate.ensures last)
    c.push_certificate-2.ensures
