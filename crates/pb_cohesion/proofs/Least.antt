-- The least number that passes a test, and how often a budget counts where prices are stable.
use Rattle.std.proofs.Common.{◌≡◌, ℕ, zero, suc, ◌+◌, ◌-◌, ◌<◌, ◌≤◌, Bool, true, false, List, [], ◌∷◌, refl, sym, ◌∙◌, ap, inl, inr, arith}
use Rattle.std.specs.Prelude.{pos, ◌-ℤ◌, filter, slice_index_or, sum_by}
use Rattle.std.specs.List.{range_with_len}
use Rattle.std.proofs.lemmas.Bool.{cases_Bool, cases_eq, cases_lt, false≢true}
use Rattle.std.proofs.lemmas.Bool.Decides.{nat_tests}
use Rattle.std.proofs.lemmas.List.Sums.{sum_by-cons}
use Rattle.pb_records.proofs.Each.{all-every}
use Rattle.pb_election.specs.Instance.{Instance}
use Rattle.pb_certificate.specs.Refutations.{Weights}
use Rattle.pb_cohesion.specs.Amounts.{largest_by}
use Rattle.pb_cohesion.specs.Groups.{gets}
use Rattle.pb_cohesion.specs.Refutations.{IsLeast, OffersMakeUp, above, counts, gain, is_made_up, least_below, missed, positive_part, stable_gain}
use Rattle.pb_cohesion.proofs.Gains.{above-is, part-above}
use Rattle.pb_cohesion.proofs.Sums.{sum-le}

-- the first number of a range that passes, and d where none does
abbrev first_of : ℕ → ℕ → ℕ → (ℕ → Bool) → ℕ
first_of a n d q = slice_index_or (filter q (range_with_len a n)) 0 d

first-at-most : (n a d : ℕ) (q : ℕ → Bool) → a + n ≤ d → first_of a n d q ≤ d
first-at-most zero a d q within = omega arith
first-at-most (suc n) a d q within = elim (cases_Bool (q a)) [
  | inl pass ↦ rw pass (omega arith)
  | inr fail ↦ rw fail (first-at-most n (a + 1) d q (omega arith))
]

first-passes : (n a d : ℕ) (q : ℕ → Bool) → q d ≡ true → q (first_of a n d q) ≡ true
first-passes zero a d q last = last
first-passes (suc n) a d q last = elim (cases_Bool (q a)) [
  | inl pass ↦ rw pass pass
  | inr fail ↦ rw fail (first-passes n (a + 1) d q last)
]

first-is-least : (n a d : ℕ) (q : ℕ → Bool) (y : ℕ) → a + n ≡ d → a ≤ y → q y ≡ true → first_of a n d q ≤ y
first-is-least zero a d q y all low pass-y = omega arith
first-is-least (suc n) a d q y all low pass-y = elim (cases_Bool (q a)) [
  | inl pass ↦ rw pass low
  | inr fail ↦
      elim (cases_eq y a) [
        | inl same ↦ absurd (false≢true (sym fail ∙ (ap q (sym same) ∙ pass-y)))
        | inr other ↦ rw fail (first-is-least n (a + 1) d q y (omega arith) (omega arith) pass-y)
      ]
]

-- the least number below n that passes, and n where none does
pub least-at-most : (n : ℕ) (q : ℕ → Bool) → least_below n q ≤ n
least-at-most n q = first-at-most n 0 n q (omega arith)

pub least-passes : (n : ℕ) (q : ℕ → Bool) → q n ≡ true → q (least_below n q) ≡ true
least-passes n q last = first-passes n 0 n q last

pub least-is-least : (n : ℕ) (q : ℕ → Bool) (y : ℕ) → q y ≡ true → least_below n q ≤ y
least-is-least n q y pass = first-is-least n 0 n q y (omega arith) (omega arith) pass

-- a number that passes, where no smaller one does
pub least-found : (n : ℕ) (q : ℕ → Bool) (x : ℕ) → q n ≡ true → q x ≡ true → ((y : ℕ) → y < x → q y ≡ false)
    → x ≡ least_below n q
least-found n q x last pass none = elim (cases_lt (least_below n q) x) [
  | inl below ↦ absurd (false≢true (sym (none (least_below n q) below) ∙ least-passes n q last))
  | inr above ↦ let most : least_below n q ≤ x = least-is-least n q x pass in omega arith
]

-- nothing is counted above the most that is counted
none-above : (f : ℕ → ℕ) (cs : List ℕ) (u : ℕ) → largest_by f cs ≤ u → sum_by (λ c. f c - u) cs ≡ 0
none-above f [] u most = refl
none-above f (c ∷ cs) u most =
    omega (arith, none-above f cs u (omega arith), sum_by-cons (λ j. f j - u) c cs)

pub made-up-at-most : (r : Weights) (z : ℕ) (cs : List ℕ)
    → is_made_up r z cs (largest_by (λ c. positive_part (counts r z c)) cs) ≡ true
made-up-at-most r z cs =
    let u : ℕ = largest_by (λ c. positive_part (counts r z c)) cs in
    let none : above r z cs u ≡ 0 =
    above-is r z cs u ∙ none-above (λ c. positive_part (counts r z c)) cs u (omega arith) in
    rw none (grind (arith, nat_tests))

-- what is made up for at a number is made up for at a larger one
pub made-up-above : (r : Weights) (z : ℕ) (cs : List ℕ) (x y : ℕ) → x ≤ y → is_made_up r z cs x ≡ true
    → is_made_up r z cs y ≡ true
made-up-above r z cs x y more made =
    let less : above r z cs y ≤ above r z cs x =
    sum-le _ _ cs
    (all-every (λ c. positive_part (counts r z c -ℤ pos y) ≤ positive_part (counts r z c -ℤ pos x)) cs
    (λ c. omega (arith, part-above (counts r z c) x, part-above (counts r z c) y))) in
    grind (arith, nat_tests)

pub not-made-up-below : (r : Weights) (z : ℕ) (cs : List ℕ) (x y : ℕ) → x ≤ y → is_made_up r z cs y ≡ false
    → is_made_up r z cs x ≡ false
not-made-up-below r z cs x y more none = elim (cases_Bool (is_made_up r z cs x)) [
  | inl yes' ↦ absurd (false≢true (sym none ∙ made-up-above r z cs x y more yes'))
  | inr no' ↦ no'
]

-- so often the budget of a voter counts
pub made-up : (e : Instance) (w : List Bool) (r : Weights) (i : ℕ) → OffersMakeUp e w r i (stable_gain e w r i)
made-up e w r i =
    let z : ℕ = missed e w r i in
    let passes : is_made_up r z (gets e w i) (stable_gain e w r i) ≡ true =
    least-passes (gain e w r i) (is_made_up r z (gets e w i)) (made-up-at-most r z (gets e w i)) in
    grind (arith, nat_tests)

pub counts-least : (e : Instance) (w : List Bool) (r : Weights) (i : ℕ)
    → IsLeast (OffersMakeUp e w r i) (stable_gain e w r i)
counts-least e w r i = (
  made-up e w r i,
  λ y makes_up.
      least-is-least (gain e w r i) (is_made_up r (missed e w r i) (gets e w i)) y
      (grind (arith, nat_tests)),
)

pub counts-at-most : (e : Instance) (w : List Bool) (r : Weights) (i : ℕ)
    → stable_gain e w r i ≤ gain e w r i
counts-at-most e w r i = least-at-most (gain e w r i) (is_made_up r (missed e w r i) (gets e w i))
