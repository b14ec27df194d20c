-- The figures of all projects, voter by voter.
use Rattle.std.proofs.Common.{◌≡◌, ℕ, zero, suc, ◌+◌, ◌-◌, ◌<◌, ◌≤◌, Bool, true, false, cond, not, List, [], ◌∷◌, ◌++◌, length, get_or, set, take, refl, sym, ◌∙◌, ap, subst, inl, inr, arith, get_or-set_other, get_or-set_same}
use Rattle.std.specs.Prelude.{◌&&◌}
use Rattle.std.proofs.lemmas.Bool.{cases_Bool, cases_eq, false≢true}
use Rattle.std.proofs.lemmas.List.{get_or_default, length-set}
use Rattle.pb_election.specs.Instance.{Instance, IsProject, IsSet, projects}
use Rattle.pb_election.specs.Outcome.{has}
use Rattle.pb_certificate.specs.declared.violations.measure.Measure.{Measure}
use Rattle.pb_cohesion.specs.Closest.{most_need}
use Rattle.pb_cohesion.specs.Inside.Counting.{AllStand, AreChanged, CanTake, Stand, counts_for, gots, with_supporter}
use Rattle.pb_cohesion.specs.Short.{need}
use Rattle.pb_cohesion.specs.declared.GroupFigures.{GroupFigures}
use Rattle.pb_cohesion.proofs.Fronts.{among-fresh, among-hit, among-miss}
use Rattle.pb_cohesion.proofs.Loops.{set-at}
use Rattle.pb_cohesion.proofs.Order.{gots-next}
use Rattle.pb_cohesion.proofs.Standing.{stand-more}
use Rattle.pb_cohesion.proofs.Sums.{among}

abbrev pub nothing : GroupFigures
nothing = record { project = 0; supporters = 0; voters = 0; most = 0; need = 0; falls_short = false }

-- the figures of a project that comes have not been changed yet
pub not-yet : (w : List Bool) (change : GroupFigures → GroupFigures) (old xs : List GroupFigures) (b : List ℕ) (k : ℕ)
    (d : GroupFigures)
    → IsSet 1 (length old) b → k < length b → AreChanged (λ c. among (take k b) c && not (has w c)) change old xs
    → (1 ≤ get_or b k 0) × (get_or b k 0 - 1 < length old)
    × (get_or xs (get_or b k 0 - 1) d ≡ get_or old (get_or b k 0 - 1) d)
not-yet w change old xs b k d s h m =
    let bounds = set-at 1 (length old) b k s h in
    let within : get_or b k 0 - 1 < length old = omega (arith, bounds.0, bounds.1) in
    let back : get_or b k 0 - 1 + 1 ≡ get_or b k 0 = omega (arith, bounds.0) in
    let unmarked : among (take k b) (get_or b k 0 - 1 + 1) ≡ false =
    ap (among (take k b)) back ∙ among-fresh b k 1 (length old) s h in
    (bounds.0, within, m.each (get_or b k 0 - 1) d within ∙ (rw unmarked refl))

-- they are changed where it is unfunded, and else kept
pub changed-next : (w : List Bool) (change : GroupFigures → GroupFigures) (old xs : List GroupFigures) (b : List ℕ) (k : ℕ)
    → IsSet 1 (length old) b → k < length b → AreChanged (λ c. among (take k b) c && not (has w c)) change old xs
    → has w (get_or b k 0) ≡ false
    → AreChanged (λ c. among (take (k + 1) b) c && not (has w c)) change old
    (set xs (get_or b k 0 - 1) (change (get_or xs (get_or b k 0 - 1) nothing)))
changed-next w change old xs b k s h m unfunded =
    let first = not-yet w change old xs b k nothing s h m in
    record {
      as_many = length-set xs (get_or b k 0 - 1) (change (get_or xs (get_or b k 0 - 1) nothing)) ∙ m.as_many;
      each = λ p d within. elim (cases_eq (get_or b k 0) (p + 1)) [
        | inl e ↦
            let place : get_or b k 0 - 1 ≡ p = omega arith in
            let long : p < length xs = omega (arith, m.as_many) in
            let marked : among (take (k + 1) b) (p + 1) ≡ true = among-hit b k (p + 1) h e in
            let free : has w (p + 1) ≡ false = ap (has w) (sym e) ∙ unfunded in
            let read : get_or xs (get_or b k 0 - 1) nothing ≡ get_or old p d =
            first.2 ∙ get_or_default old (get_or b k 0 - 1) nothing d first.1 ∙ ap (λ j. get_or old j d) place in
            rw (marked, free) (
            ap (λ j. get_or (set xs j (change (get_or xs (get_or b k 0 - 1) nothing))) p d) place
            ∙ get_or-set_same xs p (change (get_or xs (get_or b k 0 - 1) nothing)) d long
            ∙ ap change read
            )
        | inr ne ↦
            let place : p ≡ get_or b k 0 - 1 → ⊥ = λ e. ne (omega (arith, first.0, e)) in
            get_or-set_other xs (get_or b k 0 - 1) p (change (get_or xs (get_or b k 0 - 1) nothing)) d place
            ∙ m.each p d within
            ∙ ap (λ a. cond (a && not (has w (p + 1))) (change (get_or old p d)) (get_or old p d))
            (sym (among-miss b k (p + 1) h ne))
      ];
    }

pub kept-next : (w : List Bool) (change : GroupFigures → GroupFigures) (old xs : List GroupFigures) (b : List ℕ) (k : ℕ)
    → k < length b → AreChanged (λ c. among (take k b) c && not (has w c)) change old xs
    → has w (get_or b k 0) ≡ true
    → AreChanged (λ c. among (take (k + 1) b) c && not (has w c)) change old xs
kept-next w change old xs b k h m funded =
    record {
      as_many = m.as_many;
      each = λ p d within. m.each p d within ∙ ap (λ a. cond a (change (get_or old p d)) (get_or old p d)) (same (p + 1));
    }
  where
    none : (a : Bool) → (a && false) ≡ false
    none true = refl
    none false = refl

    same : (c : ℕ) → (among (take k b) c && not (has w c)) ≡ (among (take (k + 1) b) c && not (has w c))
    same c = elim (cases_eq (get_or b k 0) c) [
      | inl e ↦
          let closed : has w c ≡ true = ap (has w) (sym e) ∙ funded in
          rw closed (none (among (take k b) c) ∙ sym (none (among (take (k + 1) b) c)))
      | inr ne ↦ ap (λ a. a && not (has w c)) (sym (among-miss b k c h ne))
    ]

-- they can take one more supporter
pub coming : (e : Instance) (w : List Bool) (change : GroupFigures → GroupFigures) (old xs : List GroupFigures)
    (b : List ℕ) (k : ℕ)
    → length old ≡ projects e → IsSet 1 (projects e) b → k < length b
    → AreChanged (λ c. among (take k b) c && not (has w c)) change old xs
    → ((p : ℕ) (d : GroupFigures) → p < projects e → CanTake p (get_or old p d))
    → CanTake (get_or b k 0 - 1) (get_or xs (get_or b k 0 - 1) nothing)
coming e w change old xs b k as_many s h m can =
    let first = not-yet w change old xs b k nothing (subst (λ n. IsSet 1 n b) (sym as_many) s) h m in
    subst (CanTake (get_or b k 0 - 1)) (sym first.2) (can (get_or b k 0 - 1) nothing (omega (arith, first.1, as_many)))

-- the figures of all projects with one more voter
pub all-stand-more : (m : Measure) (e : Instance) (w : List Bool) (before : List (ℕ × ℕ)) (one : ℕ × ℕ)
    (old new : List GroupFigures)
    → AllStand m e w before old → AreChanged (counts_for e w one.1) (with_supporter m e one.0) old new
    → ((c : ℕ) → IsProject e c → need m e c one.0 ≤ most_need)
    → AllStand m e w (before ++ one ∷ []) new
all-stand-more m e w before one old new stand changed small =
    record {
      as_many = changed.as_many ∙ stand.as_many;
      each = λ k d within.
          let long : k < length old = omega (arith, stand.as_many) in
          elim (cases_Bool (counts_for e w one.1 (k + 1))) [
            | inl yes' ↦
                rw (changed.each k d long, gots-next e w (k + 1) before one, yes')
                (stand-more m e (k + 1) (gots e w (k + 1) before) one.0 (get_or old k d) (stand.each k d within)
                (small (k + 1) (omega arith, omega arith)))
            | inr no' ↦
                rw (changed.each k d long, gots-next e w (k + 1) before one, no') (stand.each k d within)
          ];
    }

-- before the first voter
abbrev pub start : ℕ → GroupFigures
start c = record { project = c; supporters = 0; voters = 0; most = 0; need = 0; falls_short = false }

pub start-stands : (m : Measure) (e : Instance) (c : ℕ) → Stand m e c [] (start c)
start-stands m e c =
    record {
      project = refl;
      supporters = refl;
      within = omega arith;
      some = λ h. absurd (omega arith);
      most = λ h. absurd (omega arith);
      needs = λ h. absurd (omega arith);
      small = omega arith;
      enough = λ h. absurd (false≢true h);
      last = λ h k low high. absurd (omega arith);
      never = λ h k high. absurd (omega arith);
      closest = λ h k high. absurd (omega arith);
      largest = λ h k low high. absurd (omega arith);
    }

pub start-next : (e : Instance) (k : ℕ) (xs : List GroupFigures) → length xs ≡ k
    → ((m : Measure) (j : ℕ) (d : GroupFigures) → j < k → Stand m e (j + 1) [] (get_or xs j d))
    → (length (xs ++ start (k + 1) ∷ []) ≡ k + 1)
    × ((m : Measure) (j : ℕ) (d : GroupFigures) → j < k + 1
    → Stand m e (j + 1) [] (get_or (xs ++ start (k + 1) ∷ []) j d))
start-next e k xs long each = (
  longer xs ∙ ap (λ n. n + 1) long,
  λ m j d within. elim (cases_eq j k) [
    | inl same ↦
        subst (λ x. Stand m e (j + 1) [] x) (sym (at xs j d (omega arith)))
        (subst (λ i. Stand m e (j + 1) [] (start (i + 1))) same (start-stands m e (j + 1)))
    | inr ne ↦
        subst (λ x. Stand m e (j + 1) [] x) (sym (before xs j d (omega arith))) (each m j d (omega arith))
  ],
)
  where
    longer : (ys : List GroupFigures) → length (ys ++ start (k + 1) ∷ []) ≡ length ys + 1
    longer [] = refl
    longer (y ∷ ys) = omega (arith, longer ys)

    at : (ys : List GroupFigures) (j : ℕ) (d : GroupFigures) → j ≡ length ys
        → get_or (ys ++ start (k + 1) ∷ []) j d ≡ start (k + 1)
    at [] zero d h = refl
    at [] (suc j) d h = absurd (omega arith)
    at (y ∷ ys) zero d h = absurd (omega arith)
    at (y ∷ ys) (suc j) d h = at ys j d (omega arith)

    before : (ys : List GroupFigures) (j : ℕ) (d : GroupFigures) → j < length ys
        → get_or (ys ++ start (k + 1) ∷ []) j d ≡ get_or ys j d
    before [] j d h = absurd (omega arith)
    before (y ∷ ys) zero d h = refl
    before (y ∷ ys) (suc j) d h = before ys j d (omega arith)
