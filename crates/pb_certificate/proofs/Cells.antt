-- The cells of a record are its fields that count, and empty behind them.
use Rattle.std.proofs.Common.{◌≡◌, ℕ, zero, suc, cond, List, [], ◌∷◌, refl, sym, ◌∙◌, ap}
use Rattle.std.specs.Prelude.{◌&&◌, slice_index_or}
use Rattle.csv.specs.Records.{field_at}
use Rattle.pb_money.specs.Digits.{is_empty}
use Rattle.pb_records.specs.Records.{Field, Rec}
use Rattle.pb_records.specs.Cells.{cell, clean}
use Rattle.pb_records.proofs.Cleaning.{clean-nil}
use Rattle.pb_certificate.specs.Fields.{fields}

-- the fields that count, of a first field and of those of the others that count
with_first : Field → List Field → List Field
with_first x ys = cond (is_empty x && is_empty ys) [] (x ∷ ys)

first-at : (x : Field) (ys : List Field) → slice_index_or (with_first x ys) 0 [] ≡ x
unfolding with_first
first-at [] [] = refl
first-at [] (y ∷ ys) = refl
first-at (b ∷ bs) ys = refl

later-at : (x : Field) (ys : List Field) (k : ℕ) → slice_index_or (with_first x ys) (suc k) [] ≡ slice_index_or ys k []
unfolding with_first
later-at [] [] k = refl
later-at [] (y ∷ ys) k = refl
later-at (b ∷ bs) ys k = refl

pub field-cell : (r : Rec) (k : ℕ) → slice_index_or (fields r) k [] ≡ cell k r
unfolding field_at with_first
field-cell [] k = sym clean-nil
field-cell (f ∷ fs) zero = first-at (clean f) (fields fs)
field-cell (f ∷ fs) (suc k) = later-at (clean f) (fields fs) k ∙ field-cell fs k

pub cell-is : (r : Rec) (fs : List Field) (k : ℕ) → fields r ≡ fs → cell k r ≡ slice_index_or fs k []
cell-is r fs k s = sym (field-cell r k) ∙ ap (λ (gs : List Field). slice_index_or gs k []) s
