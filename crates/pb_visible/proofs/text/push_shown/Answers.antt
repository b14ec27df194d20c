use Rattle.std.proofs.Common.{arith}
use Rattle.std.proofs.lemmas.Grind.{common_steps}
use Rattle.pb_visible.specs.Visible.{shown}
use Rattle.pb_visible.proofs.Numbers.{encodes-number}
use Rattle.pb_visible.proofs.text.push_shown.Goals as goal

pub returns-then-not-is_spelling : goal.returns-then-not-is_spelling
unfolding shown
returns-then-not-is_spelling c =
    let ascii = encodes-number c.args.c (omega (arith, c.ranges.c)) in
    grind (arith, common_steps)
