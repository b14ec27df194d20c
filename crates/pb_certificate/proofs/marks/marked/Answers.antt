use Rattle.std.proofs.Common.{arith}
use Rattle.std.proofs.lemmas.List.{get_or_default}
use Rattle.pb_certificate.proofs.MarkLemmas.{none-more-marked, one-more-marked}
use Rattle.pb_certificate.proofs.marks.marked.Goals as goal
use Rattle.pb_certificate.proofs.marks.marked.Goals.{then-has_mark+in_ok-push, else-has_mark}

pub loop-has_mark-preserved : goal.loop-has_mark-preserved
loop-has_mark-preserved c =
    grind (arith, get_or_default, then-has_mark+in_ok-push, one-more-marked, else-has_mark, none-more-marked)
