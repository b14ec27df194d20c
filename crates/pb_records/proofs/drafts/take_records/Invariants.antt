use Rattle.std.proofs.Common.{length}
use Rattle.pb_records.proofs.DraftProgress.{Progress}
use Rattle.pb_records.proofs.drafts.take_records.Given as goal

abbrev pub invariant-rows : goal.invariant-rows
invariant-rows g l =
    Progress (g.D.Draft.form l.against) (g.D.Draft.HasTaken l.against l.draft) l.fn.cursor.left
    l.cursor.left l.cursor.record_number

abbrev pub decreases-rows : goal.decreases-rows
decreases-rows g l = length l.cursor.left
