-- What is known of the payments that a price system has.
use Rattle.std.proofs.Common.{◌≤◌, ◌-◌, ℕ, suc, List, [], ◌∷◌, length, arith}
use Rattle.std.specs.Prelude.{All}
use Rattle.std.specs.List.{AllByRecursion}
use Rattle.pb_certificate.specs.Prices.{IsPaymentMap, IsPriceSystem, Prices, payments_of}

pub each-of : {X : Type 0} (P : X → Type 0) (xs : List X) → All P xs → AllByRecursion P xs
each-of P [] h = tt
each-of P (x ∷ xs) h = (h 0 x (omega arith), each-of P xs (λ i d within. h (suc i) d (omega arith)))

pub map-at : (p : Prices) (i : ℕ) → IsPriceSystem p → 1 ≤ i → i ≤ length p.payments
    → IsPaymentMap p.projects (payments_of p i)
map-at p i s low high = s.maps (i - 1) [] (omega arith)
