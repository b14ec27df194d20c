use Rattle.std.proofs.Common.{◌∙◌, ap, sym}
use Rattle.pb_records.specs.Inside.Lines.{lines_left}
use Rattle.pb_records.proofs.PlainLines.{feed}
use Rattle.pb_records.proofs.lines.behind_feed.Goals as goal

pub returns-in-Some : goal.returns-in-Some
returns-in-Some c = sym (feed c.in-Some.rest.now) ∙ sym (ap lines_left c.in-Some.ensures.cut)
