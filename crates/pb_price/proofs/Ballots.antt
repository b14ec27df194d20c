-- The projects of a ballot, one after another: marks and money for each.
use Rattle.std.proofs.Common.{◌≡◌, ℕ, ◌+◌, ◌-◌, ◌<◌, ◌≤◌, cond, List, length, get_or, set, take, refl, sym, ◌∙◌, ap, subst, arith, get_or-set_other, get_or-set_same}
use Rattle.std.specs.Prelude.{pos}
use Rattle.std.proofs.lemmas.Bool.{cases_eq}
use Rattle.std.proofs.lemmas.List.{get_or_default, length-set}
use Rattle.pb_election.specs.Instance.{IsSet}
use Rattle.pb_cohesion.proofs.Fronts.{among-fresh, among-hit, among-miss}
use Rattle.pb_cohesion.proofs.Loops.{set-at}
use Rattle.pb_cohesion.proofs.Sums.{among}
use Rattle.pb_price.specs.Inside.Tallies.{AreChanged, AreSmall}
use Rattle.pb_price.specs.declared.tally.ProjectSums.{ProjectSums}

abbrev pub nothing : ProjectSums
nothing = record { paid = 0; left = pos 0; offer = pos 0; supporters = 0; last_approver = 0 }

-- what holds of the sums of a project after a write, by whether they were written
pub written : (xs : List ProjectSums) (i p : ℕ) (v d : ProjectSums) (P : ProjectSums → Type 0) → p < length xs
    → (p ≡ i → P v) → ((p ≡ i → ⊥) → P (get_or xs p d)) → P (get_or (set xs i v) p d)
written xs i p v d P within here other = grind (arith, cases_eq, get_or, get_or-set_same, get_or-set_other)

-- the sums that were read there
pub read : (xs : List ProjectSums) (i p : ℕ) (d : ProjectSums) → p < length xs → p ≡ i
    → get_or xs i nothing ≡ get_or xs p d
read xs i p d within e = ap (λ k. get_or xs k nothing) (sym e) ∙ get_or_default xs p nothing d within

-- the project at a place of a ballot
pub low : (n : ℕ) (b : List ℕ) (k : ℕ) → IsSet 1 n b → k < length b → 1 ≤ get_or b k 0
low n b k s h = (set-at 1 n b k s h).0

pub high : (n : ℕ) (b : List ℕ) (k : ℕ) → IsSet 1 n b → k < length b → get_or b k 0 ≤ n
high n b k s h = (set-at 1 n b k s h).1

-- a project that comes has not been changed yet
not-yet : (change : ProjectSums → ProjectSums) (old xs : List ProjectSums) (b : List ℕ) (k p : ℕ) (d : ProjectSums)
    → IsSet 1 (length old) b → k < length b → AreChanged change old xs (take k b) → p ≡ get_or b k 0 - 1
    → p < length old
    → get_or xs p d ≡ get_or old p d
not-yet change old xs b k p d s h m e w =
    let from : 1 ≤ get_or b k 0 = low (length old) b k s h in
    let is : p + 1 ≡ get_or b k 0 = omega arith in
    m.each p d w ∙ ap (λ c. cond c (change (get_or old p d)) (get_or old p d))
    (ap (among (take k b)) is ∙ among-fresh b k 1 (length old) s h)

pub small-yet : (change : ProjectSums → ProjectSums) (old xs : List ProjectSums) (b : List ℕ) (k : ℕ) (d : ProjectSums)
    → IsSet 1 (length old) b → k < length b → AreChanged change old xs (take k b)
    → ((p : ℕ) (x : ProjectSums) → p < length old → AreSmall (get_or old p x))
    → AreSmall (get_or xs (get_or b k 0 - 1) d)
small-yet change old xs b k d s h m small =
    let from : 1 ≤ get_or b k 0 = low (length old) b k s h in
    let to : get_or b k 0 ≤ length old = high (length old) b k s h in
    let within : get_or b k 0 - 1 < length old = omega arith in
    subst AreSmall (sym (not-yet change old xs b k (get_or b k 0 - 1) d s h m refl within))
    (small (get_or b k 0 - 1) d within)

pub change-next : (change : ProjectSums → ProjectSums) (old xs : List ProjectSums) (b : List ℕ) (k : ℕ)
    → IsSet 1 (length old) b → k < length b → AreChanged change old xs (take k b)
    → AreChanged change old (set xs (get_or b k 0 - 1) (change (get_or xs (get_or b k 0 - 1) nothing))) (take (k + 1) b)
change-next change old xs b k s h m =
    let i : ℕ = get_or b k 0 - 1 in
    let from : 1 ≤ get_or b k 0 = low (length old) b k s h in
    record {
      as_many = length-set xs (get_or b k 0 - 1) (change (get_or xs (get_or b k 0 - 1) nothing)) ∙ m.as_many;
      each = λ p d w. written xs i p (change (get_or xs (get_or b k 0 - 1) nothing)) d
          (λ x. x ≡ cond (among (take (k + 1) b) (p + 1)) (change (get_or old p d)) (get_or old p d)) (rw m.as_many w)
          (λ e. ap change (read xs i p d (rw m.as_many w) e ∙ not-yet change old xs b k p d s h m e w)
          ∙ sym (ap (λ c. cond c (change (get_or old p d)) (get_or old p d)) (among-hit b k (p + 1) h (omega arith))))
          (λ ne. m.each p d w
          ∙ sym
          (ap (λ c. cond c (change (get_or old p d)) (get_or old p d))
          (among-miss b k (p + 1) h (λ e. ne (omega arith)))));
    }
