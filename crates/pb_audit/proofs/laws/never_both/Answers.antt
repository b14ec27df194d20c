use Rattle.pb_audit.proofs.NeverBoth.{never-both}
use Rattle.pb_audit.proofs.laws.never_both.Goals as goal

pub returns : goal.returns
returns c =
    record {
      whatever = λ m s e o p w x y a b yes_x yes_y line. (never-both m s e o p w x y a b yes_x yes_y).whatever line;
      told_under_cover = λ m s e o p w x y a b covers yes_x yes_y line.
          (never-both m s e o p w x y a b yes_x yes_y).told_under_cover line covers;
      under_cover = λ m s e o p w x y a b plain covers yes_x yes_y.
          (never-both m s e o p w x y a b yes_x yes_y).plain_under_cover plain covers;
      told_stable = λ m s e o p w x y a b is_stable yes_x yes_y line.
          (never-both m s e o p w x y a b yes_x yes_y).told_stable line is_stable;
      stable_under_cover = λ m s e o p w x y a b is_stable covers yes_x yes_y.
          (never-both m s e o p w x y a b yes_x yes_y).stable_under_cover is_stable covers;
    }
