-- The figures of a project with one more supporter.
use Rattle.std.proofs.Common.{◌≡◌, ℕ, zero, suc, ◌+◌, ◌-◌, ◌*◌, ◌<◌, ◌≤◌, Bool, true, false, List, [], ◌∷◌, ◌++◌, length, get_or, refl, sym, ◌∙◌, ap, subst, inl, inr, ◌⊎◌, arith}
use Rattle.std.proofs.lemmas.Bool.{cases_Bool, cases_eq, or_cases, or_parts, leb-true, leb-false, false≢true}
use Rattle.std.proofs.Math.Nat.{le_of_mul-le-mul_left, mul-le-mul_left, mul_left_comm}
use Rattle.pb_election.specs.Instance.{Instance}
use Rattle.pb_certificate.specs.declared.violations.measure.Measure.{Measure}
use Rattle.pb_cohesion.specs.Closest.{most_need}
use Rattle.pb_cohesion.specs.Inside.Counting.{Stand, is_enough, is_shown, with_supporter}
use Rattle.pb_cohesion.specs.Short.{need}
use Rattle.pb_cohesion.specs.declared.GroupFigures.{GroupFigures}

-- a list with one more number
pub before-last : (xs : List ℕ) (g k : ℕ) → k < length xs → get_or (xs ++ g ∷ []) k 0 ≡ get_or xs k 0
before-last [] g k h = absurd (omega arith)
before-last (x ∷ xs) g zero h = refl
before-last (x ∷ xs) g (suc k) h = before-last xs g k (omega arith)

pub at-last : (xs : List ℕ) (g : ℕ) → get_or (xs ++ g ∷ []) (length xs) 0 ≡ g
at-last [] g = refl
at-last (x ∷ xs) g = at-last xs g

pub longer : (xs : List ℕ) (g : ℕ) → length (xs ++ g ∷ []) ≡ length xs + 1
longer [] g = refl
longer (x ∷ xs) g = omega (arith, longer xs g)

-- what holds of each of the numbers before and of one more holds of each
pub each-more : (P : ℕ → ℕ → Type 0) (from : ℕ) (xs : List ℕ) (g : ℕ)
    → ((k : ℕ) → from ≤ k → k < length xs → P k (get_or xs k 0)) → (from ≤ length xs → P (length xs) g) → (k : ℕ)
    → from ≤ k
    → k < length (xs ++ g ∷ [])
    → P k (get_or (xs ++ g ∷ []) k 0)
each-more P from xs g each one k low high =
    let long : length (xs ++ g ∷ []) ≡ length xs + 1 = longer xs g in
    elim (cases_eq k (length xs)) [
      | inl e ↦
          subst (λ j. P j (get_or (xs ++ g ∷ []) j 0)) (sym e)
          (subst (P (length xs)) (sym (at-last xs g)) (one (omega arith)))
      | inr ne ↦
          let within : k < length xs = omega arith in
          subst (P k) (sym (before-last xs g k within)) (each k low within)
    ]

-- Of two shares, the one that covers no less of what it has to come to. Where v of them cover no less of n than k of
-- them cover of a, and l of b no less than v of n, l of b cover no less than k of a.
pub cover-trans : (k a v n l b : ℕ) → 0 < v → k * n ≤ v * a → v * b ≤ l * n → k * b ≤ l * a
cover-trans k a zero n l b some first second = absurd (omega arith)
cover-trans k a (suc v) n l b some first second =
    let one : k * (suc v * b) ≤ k * (l * n) = mul-le-mul_left k second in
    let two : l * (k * n) ≤ l * (suc v * a) = mul-le-mul_left l first in
    let left_is : k * (suc v * b) ≡ suc v * (k * b) = mul_left_comm k (suc v) b in
    let mid_is : k * (l * n) ≡ l * (k * n) = mul_left_comm k l n in
    let right_is : l * (suc v * a) ≡ suc v * (l * a) = mul_left_comm l (suc v) a in
    let whole : suc v * (k * b) ≤ suc v * (l * a) = omega (arith, one, two, left_is, mid_is, right_is) in
    le_of_mul-le-mul_left whole (omega arith)

-- the two ways in which a group is shown
shown-first : (m : Measure) (e : Instance) (g : ℕ) (x : GroupFigures) → is_shown m e g x ≡ true
    → (is_enough e (x.supporters + 1) (need m e x.project g) ≡ true)
    ⊎ ((x.falls_short ≡ false) × (x.voters * need m e x.project g ≤ (x.supporters + 1) * x.need))
shown-first m e g x h = grind (arith, or_cases, leb-true, cases_Bool)

not-shown : (m : Measure) (e : Instance) (g : ℕ) (x : GroupFigures) → is_shown m e g x ≡ false
    → (is_enough e (x.supporters + 1) (need m e x.project g) ≡ false)
    × (x.falls_short ≡ false → (x.supporters + 1) * x.need < x.voters * need m e x.project g)
not-shown m e g x h = (grind (arith, or_parts), λ no'. grind (arith, or_parts, leb-false))

-- the figures where the group of all supporters so far is shown
shown-stand : (m : Measure) (e : Instance) (c : ℕ) (xs : List ℕ) (g : ℕ) (x : GroupFigures) → Stand m e c xs x
    → need m e c g ≤ most_need
    → (enough : Bool) → is_enough e (length xs + 1) (need m e c g) ≡ enough
    → (enough ≡ false
    → (x.falls_short ≡ false) × (x.voters * need m e c g ≤ (length xs + 1) * x.need))
    → Stand m e c (xs ++ g ∷ []) (record {
      project = c;
      supporters = length xs + 1;
      voters = length xs + 1;
      most = g;
      need = need m e c g;
      falls_short = enough;
    })
shown-stand m e c xs g x s small enough is closer =
    let long : length (xs ++ g ∷ []) ≡ length xs + 1 = longer xs g in
    record {
      project = refl;
      supporters = sym long;
      within = omega arith;
      some = λ some. omega arith;
      most = λ some. ap (λ k. get_or (xs ++ g ∷ []) k 0) (last (length xs)) ∙ at-last xs g;
      needs = λ some. refl;
      small = small;
      enough = λ yes'. (omega arith, is ∙ yes');
      last = λ yes' k low high. absurd (omega arith);
      never = λ no' k high. each-more (λ j y. is_enough e (j + 1) (need m e c y) ≡ false) 0 xs g
          (λ j low within. s.never (closer no').0 j within) (λ low. is ∙ no') k (omega arith) high;
      closest = λ no' k high. each-more (λ j y. (j + 1) * need m e c g ≤ (length xs + 1) * need m e c y) 0 xs g
          (λ j low within. cover-trans (j + 1) (need m e c (get_or xs j 0)) x.voters x.need (length xs + 1) (need m e c g)
          (s.some (omega arith)) (s.closest (closer no').0 j within) (closer no').1)
          (λ low. omega arith) k (omega arith) high;
      largest = λ no' k low high. absurd (omega arith);
    }
  where
    last : (n : ℕ) → n + 1 - 1 ≡ n
    last n = omega arith

-- the figures where the group at hand is shown on
kept-stand : (m : Measure) (e : Instance) (c : ℕ) (xs : List ℕ) (g : ℕ) (x : GroupFigures) → Stand m e c xs x
    → is_enough e (length xs + 1) (need m e c g) ≡ false
    → (x.falls_short ≡ false → (length xs + 1) * x.need < x.voters * need m e c g)
    → Stand m e c (xs ++ g ∷ []) (record {
      project = c;
      supporters = length xs + 1;
      voters = x.voters;
      most = x.most;
      need = x.need;
      falls_short = x.falls_short;
    })
kept-stand m e c xs g x s not_enough farther =
    let long : length (xs ++ g ∷ []) ≡ length xs + 1 = longer xs g in
    let within : x.voters ≤ length xs = s.within in
    let some : 0 < x.voters = elim (cases_Bool x.falls_short) [
      | inl yes' ↦ (s.enough yes').0
      | inr no' ↦ positive x.voters (need m e c g) ((length xs + 1) * x.need) (farther no')
    ] in
    record {
      project = refl;
      supporters = sym long;
      within = omega arith;
      some = λ any. some;
      most = λ any. before-last xs g (x.voters - 1) (omega arith) ∙ s.most some;
      needs = s.needs;
      small = s.small;
      enough = s.enough;
      last = λ yes'. each-more (λ j y. is_enough e (j + 1) (need m e c y) ≡ false) x.voters xs g
          (s.last yes') (λ low. not_enough);
      never = λ no' k high. each-more (λ j y. is_enough e (j + 1) (need m e c y) ≡ false) 0 xs g
          (λ j low. s.never no' j) (λ low. not_enough) k (omega arith) high;
      closest = λ no' k high. each-more (λ j y. (j + 1) * x.need ≤ x.voters * need m e c y) 0 xs g
          (λ j low. s.closest no' j) (λ low. omega (arith, farther no')) k (omega arith) high;
      largest = λ no'. each-more (λ j y. (j + 1) * x.need < x.voters * need m e c y) x.voters xs g
          (s.largest no') (λ low. farther no');
    }
  where
    positive : (v n k : ℕ) → k < v * n → 0 < v
    positive zero n k h = absurd (omega arith)
    positive (suc v) n k h = omega arith

-- the figures with one more supporter
pub stand-more : (m : Measure) (e : Instance) (c : ℕ) (xs : List ℕ) (g : ℕ) (x : GroupFigures) → Stand m e c xs x
    → need m e c g ≤ most_need → Stand m e c (xs ++ g ∷ []) (with_supporter m e g x)
stand-more m e c xs g x s small =
    elim (cases_Bool (is_shown m e g x)) [
      | inl yes' ↦ rw (yes', s.project, s.supporters)
          (shown-stand m e c xs g x s small (is_enough e (length xs + 1) (need m e c g)) refl (closer (shown-first m e g x yes')))
      | inr no' ↦
          rw (no', s.project, s.supporters) (
          kept-stand m e c xs g x s
          (subst2 (λ k j. is_enough e (k + 1) (need m e j g) ≡ false) s.supporters s.project (not-shown m e g x no').0)
          (λ no''. subst2 (λ k j. (k + 1) * x.need < x.voters * need m e j g) s.supporters s.project ((not-shown m e g x no').1 no''))
          )
    ]
  where
    subst2 : (P : ℕ → ℕ → Type 0) → {a b j k : ℕ} → a ≡ b → j ≡ k → P a j → P b k
    subst2 P {a} {b} {j} {k} h i p = subst (λ y. P b y) i (subst (λ y. P y j) h p)

    closer : (is_enough e (x.supporters + 1) (need m e x.project g) ≡ true)
        ⊎ ((x.falls_short ≡ false) × (x.voters * need m e x.project g ≤ (x.supporters + 1) * x.need))
        → is_enough e (length xs + 1) (need m e c g) ≡ false
        → (x.falls_short ≡ false) × (x.voters * need m e c g ≤ (length xs + 1) * x.need)
    closer (inl enough) not_enough =
        absurd (false≢true (sym not_enough ∙ subst2 (λ k j. is_enough e (k + 1) (need m e j g) ≡ true) s.supporters s.project enough))
    closer (inr close) not_enough =
        (close.0, subst2 (λ k j. x.voters * need m e j g ≤ (k + 1) * x.need) s.supporters s.project close.1)
