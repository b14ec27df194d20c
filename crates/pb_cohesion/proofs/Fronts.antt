-- The front of a ballot, project by project.
use Rattle.std.proofs.Common.{◌≡◌, ℕ, zero, suc, ◌+◌, ◌<◌, ◌≤◌, true, false, List, [], ◌∷◌, length, get_or, take, refl, ◌∙◌, ap, arith}
use Rattle.std.specs.Prelude.{◌==◌}
use Rattle.std.proofs.lemmas.Bool.{eq-eqb, ne_eqb}
use Rattle.std.proofs.Math.Bool.{or-true}
use Rattle.pb_election.specs.Instance.{IsSet}
use Rattle.pb_cohesion.proofs.Loops.{set-at}
use Rattle.pb_cohesion.proofs.Sums.{among}

-- the front with one more project
hit : (b : List ℕ) (k x : ℕ) → k < length b → get_or b k 0 ≡ x → among (take (suc k) b) x ≡ true
hit [] k x h e = absurd (omega arith)
hit (y ∷ ys) zero x h e = rw (eq-eqb y x e) refl
hit (y ∷ ys) (suc k) x h e = rw (hit ys k x (omega arith) e) (or-true (y == x))

miss : (b : List ℕ) (k x : ℕ) → k < length b → (get_or b k 0 ≡ x → ⊥) → among (take (suc k) b) x ≡ among (take k b) x
miss [] k x h ne = absurd (omega arith)
miss (y ∷ ys) zero x h ne = rw (ne_eqb y x ne) refl
miss (y ∷ ys) (suc k) x h ne = rw (miss ys k x (omega arith) ne) refl

pub among-hit : (b : List ℕ) (k x : ℕ) → k < length b → get_or b k 0 ≡ x → among (take (k + 1) b) x ≡ true
among-hit b k x h e = let next : k + 1 ≡ suc k = omega arith in ap (λ m. among (take m b) x) next ∙ hit b k x h e

pub among-miss : (b : List ℕ) (k x : ℕ) → k < length b → (get_or b k 0 ≡ x → ⊥)
    → among (take (k + 1) b) x ≡ among (take k b) x
among-miss b k x h ne = let next : k + 1 ≡ suc k = omega arith in ap (λ m. among (take m b) x) next ∙ miss b k x h ne

-- a set has no number twice
pub among-fresh : (b : List ℕ) (k low high : ℕ) → IsSet low high b → k < length b
    → among (take k b) (get_or b k 0) ≡ false
among-fresh [] k low high s h = absurd (omega arith)
among-fresh (y ∷ ys) zero low high s h = refl
among-fresh (y ∷ ys) (suc k) low high s h =
    let later : (y + 1 ≤ get_or ys k 0) × (get_or ys k 0 ≤ high) = set-at (y + 1) high ys k s.2 (omega arith) in
    rw (ne_eqb y (get_or ys k 0) (λ e. omega (arith, later.0))) (among-fresh ys k (y + 1) high s.2 (omega arith))
