use Rattle.std.proofs.Common.{◌∙◌, refl, sym}
use Rattle.pb_records.proofs.PlainLines.{no-mark}
use Rattle.pb_records.proofs.RecordsLeft.{empty-lines}
use Rattle.pb_records.proofs.records.read_line.Goals as goal

pub returns-then-is_empty : goal.returns-then-is_empty
returns-then-is_empty c =
    let none = empty-lines c.behind_feed.result.now (sym c.is_empty.ensures ∙ c.if-is_empty.true) in
    ((sym c.behind_feed.ensures ∙ none, refl), tt)

pub returns-in-Some : goal.returns-in-Some
returns-in-Some c =
    let line = rw c.in-Some.is at c.in_ok-rest.ensures in
    ((line.records, line.is_utf8), no-mark c.in-Some.rest.now line.at_end)
