-- Lists without doubles.
use Rattle.std.proofs.Common.{◌≡◌, ◌∙◌, ◌++◌, List, [], ◌∷◌, refl, false}
use Rattle.std.specs.List.{AllByRecursion, IsDistinct, list_any}
use Rattle.std.specs.Str.{bytes_eq}
use Rattle.std.proofs.lemmas.Cmp.{nat_list_eq_equiv}
use Rattle.pb_records.specs.Records.{Field}

pub distinct-at : (xs : List Field) (y : Field) (zs : List Field) → IsDistinct bytes_eq (xs ++ y ∷ zs)
    → list_any (bytes_eq y) xs ≡ false
unfolding IsDistinct
distinct-at [] y zs h = refl
distinct-at (x ∷ xs) y zs h =
    let e : bytes_eq y x ≡ false = nat_list_eq_equiv.symm y x ∙ field-at xs y zs h.0 in
    rw (e, distinct-at xs y zs h.1) refl
  where
    field-at : (xs : List Field) (y : Field) (zs : List Field)
        → AllByRecursion (λ z. bytes_eq x z ≡ false) (xs ++ y ∷ zs) → bytes_eq x y ≡ false
    field-at [] y zs h = h.0
    field-at (w ∷ ws) y zs h = field-at ws y zs h.1
