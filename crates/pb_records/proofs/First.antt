-- The first fault is only one.
use Rattle.std.proofs.Common.{◌≡◌, ℕ, List, arith}
use Rattle.pb_records.specs.Records.{Rec}
use Rattle.pb_records.specs.FirstFault.{Form, IsFirstFault}

pub one-first : {F : Type 0} (form : Form F) (recs : List Rec) (k j : ℕ) (f g : F) → IsFirstFault form recs k f
    → IsFirstFault form recs j g → (k ≡ j) × (f ≡ g)
one-first form recs k j f g a b = grind arith
