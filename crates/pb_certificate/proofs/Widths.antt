-- How many fields of a record count, looked at from the end.
use Rattle.std.proofs.Common.{◌≡◌, ◌<◌, ℕ, suc, zero, [], ◌∷◌, refl, ap, arith, true, false, length, take}
use Rattle.std.specs.Prelude.{◌==◌}
use Rattle.std.proofs.lemmas.Bool.Decides.{nat_tests}
use Rattle.pb_money.specs.Digits.{is_empty}
use Rattle.pb_records.specs.Records.{Field, Rec}
use Rattle.pb_records.specs.Cells.{cell}
use Rattle.csv.specs.Records.{field_at}
use Rattle.pb_certificate.specs.Fields.{fields}

pub is-empty : (f : Field) → (length f == 0) ≡ is_empty f
is-empty [] = refl
is-empty (b ∷ bs) = grind (arith, nat_tests)

-- an empty field at the end doesn't count
pub drops-last : (r : Rec) (k : ℕ) → k < length r → is_empty (cell k r) ≡ true
    → fields (take (suc k) r) ≡ fields (take k r)
unfolding field_at
drops-last [] k h e = absurd (omega arith)
drops-last (f ∷ fs) zero h e = rw e refl
drops-last (f ∷ fs) (suc k) h e = grind (arith, drops-last fs k)

-- one that isn't empty does, with all before it
pub keeps-last : (r : Rec) (k : ℕ) → k < length r → is_empty (cell k r) ≡ false
    → length (fields (take (suc k) r)) ≡ suc k
unfolding field_at
keeps-last [] k h e = absurd (omega arith)
keeps-last (f ∷ fs) zero h e = rw e refl
keeps-last (f ∷ fs) (suc k) h e = grind (arith, keeps-last fs k)

-- the front of a record that is as long as it
pub whole : (r : Rec) (k : ℕ) → length r ≡ k → take k r ≡ r
whole [] zero e = refl
whole [] (suc k) e = refl
whole (f ∷ fs) zero e = absurd (omega (arith, e))
whole (f ∷ fs) (suc k) e = ap (λ (rest : Rec). f ∷ rest) (whole fs k (omega (arith, e)))
