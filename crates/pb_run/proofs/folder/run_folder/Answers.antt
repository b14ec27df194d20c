use Rattle.std.proofs.Common.{◌≡◌, Err, Ok, rules}
use Rattle.pb_reply.specs.Replies.{answer_as, refused}
use Rattle.pb_run.specs.Asking.{format_of}
use Rattle.pb_run.specs.Folders.{unlisted}
use Rattle.pb_run.proofs.Endings.{ends_by_report}
use Rattle.pb_run.proofs.folder.run_folder.Goals as goal

pub returns-in_err-status : goal.returns-in_err-status
returns-in_err-status g c =
    let was : c.write_report.result ≡ Err c.in_err-status.field-0.0 = search rules in
    let is : c.from_residual-in_err-status.result ≡ Err c.in_err-status.field-0.0 = search rules in
    let ends =
    ends_by_report g.F.Files.lists g.F.Files.hands g.F.Input.Given.delivers g.W.Sink c.args.json c.args.mode
    c.args.folder.now c.in-Ok.listing (λ a. a ≡ answer_as (format_of c.args.json) (refused unlisted))
    c.write_report.result c.args.files.now c.listing_of.new.files c.write_report.new.files c.args.out.now
    c.write_report.new.out c.in-Ok.ensures c.write_report.ensures in
    rw is (rw was at ends)

pub returns : goal.returns
returns g c =
    let was : c.write_report.result ≡ Ok c.in_ok-status.status = search rules in
    let ends =
    ends_by_report g.F.Files.lists g.F.Files.hands g.F.Input.Given.delivers g.W.Sink c.args.json c.args.mode
    c.args.folder.now c.in-Ok.listing (λ a. a ≡ answer_as (format_of c.args.json) (refused unlisted))
    c.write_report.result c.args.files.now c.listing_of.new.files c.write_report.new.files c.args.out.now
    c.write_report.new.out c.in-Ok.ensures c.write_report.ensures in
    rw was at ends
