-- Lists no element of which is the same as another.
use Rattle.std.proofs.Common.{◌≡◌, Bool, false, List, [], ◌∷◌, ◌++◌, arith}
use Rattle.std.specs.List.{AllByRecursion, IsDistinct}
use Rattle.pb_records.proofs.Each.{all-both, all-every, all-push}

-- one more that differs from each
pub distinct-push : {A : Type 0} (eq : A → A → Bool) (xs : List A) (x : A) → IsDistinct eq xs
    → AllByRecursion (λ y. eq y x ≡ false) xs → IsDistinct eq (xs ++ (x ∷ []))
unfolding IsDistinct
distinct-push eq [] x h k = (tt, tt)
distinct-push {A} eq (y ∷ ys) x h k = (apart ys h.0 k.0, distinct-push eq ys x h.1 k.1)
  where
    apart : (zs : List A) → AllByRecursion (λ z. eq y z ≡ false) zs → eq y x ≡ false
        → AllByRecursion (λ z. eq y z ≡ false) (zs ++ (x ∷ []))
    apart [] l e = (e, tt)
    apart (z ∷ zs) l e = (l.0, apart zs l.1 e)

-- what comes is apart from one more that was taken
pub apart-more : {A : Type 0} (eq : A → A → Bool) (ms : List A) (n : A) (ns : List A)
    → AllByRecursion (λ x. AllByRecursion (λ m. eq m x ≡ false) ms) ns → AllByRecursion (λ y. eq n y ≡ false) ns
    → AllByRecursion (λ x. AllByRecursion (λ m. eq m x ≡ false) (ms ++ (n ∷ []))) ns
apart-more eq ms n ns h k = grind (arith, all-both, all-push)

pub each-nil : {A : Type 0} (eq : A → A → Bool) (ns : List A)
    → AllByRecursion (λ x. AllByRecursion (λ m. eq m x ≡ false) []) ns
each-nil eq ns = all-every (λ x. AllByRecursion (λ m. eq m x ≡ false) []) ns (λ x. tt)
