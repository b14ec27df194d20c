-- The verdict that the figures of all projects tell.
use Rattle.std.proofs.Common.{◌≡◌, ℕ, zero, suc, ◌+◌, ◌<◌, ◌≤◌, Bool, true, false, cond, List, [], ◌∷◌, length, get_or, map, take, refl, sym, ◌∙◌, ap, subst, inl, inr, ◌⊎◌, arith}
use Rattle.std.specs.Prelude.{◌≢◌, ◌↔◌, ◌&&◌, Contains, Some, None, not, nat_lt}
use Rattle.std.specs.List.{AllByRecursion, find}
use Rattle.std.proofs.lemmas.Bool.{cases_Bool, false≢true, lt-ltb}
use Rattle.std.proofs.lemmas.List.Elements.{All-contains, All-from_recursion, recursion_from_All}
use Rattle.pb_records.proofs.Each.{all-map, all-weaker}
use Rattle.pb_election.specs.Instance.{Instance, IsSet, IsVoter, all_projects, all_voters, approves, projects, supporters, voters}
use Rattle.pb_election.specs.Outcome.{has}
use Rattle.pb_certificate.proofs.Unique.{filter-set}
use Rattle.pb_certificate.specs.declared.violations.measure.Measure.{Measure}
use Rattle.pb_cohesion.specs.Closest.{AreAllFigures, AreFiguresOf, NoneFallsShort, wanted}
use Rattle.pb_cohesion.specs.Shown.{verdict_of}
use Rattle.pb_cohesion.specs.Short.{FallsShort, IsFirstShort, IsLargestShort, SatisfiesEjrPlus}
use Rattle.pb_cohesion.specs.declared.GroupFigures.{GroupFigures}
use Rattle.pb_cohesion.specs.declared.GroupsVerdict.{GroupsVerdict}
use Rattle.pb_cohesion.specs.declared.GroupsVerdict.TheVariants.{Satisfied, Failed}
use Rattle.pb_cohesion.proofs.Culprits.{filter-filter}
use Rattle.pb_cohesion.proofs.Members.{one-largest}
use Rattle.pb_cohesion.proofs.Sets.{set-all}
use Rattle.pb_cohesion.proofs.Supported.{each-supports, filter-has, range-has}

-- the first project for which a group falls short, with the largest group
record First (m : Measure) (e : Instance) (w : List Bool) (xs : List GroupFigures) : Type 0 where
  c : ℕ
  s : List ℕ
  is : verdict_of xs ≡ Failed c (length s)
  largest : IsLargestShort m e w s c
  lowest : AllByRecursion (λ x. NoneFallsShort m e w x.project ⊎ (c ≤ x.project)) xs

-- or there is none
abbrev Nowhere : Measure → Instance → List Bool → List GroupFigures → Type 0
Nowhere m e w xs = (verdict_of xs ≡ Satisfied) × AllByRecursion (λ x. NoneFallsShort m e w x.project) xs

first-or : (m : Measure) (e : Instance) (w : List Bool) (low : ℕ) (xs : List GroupFigures)
    → AllByRecursion (AreFiguresOf m e w) xs → IsSet low (projects e) (map (λ x. x.project) xs)
    → Nowhere m e w xs ⊎ First m e w xs
first-or m e w low [] each rising = inl (refl, tt)
first-or m e w low (x ∷ xs) each rising = elim (cases_Bool x.falls_short) [
  | inl yes' ↦
      let group = each.0.shown in
      let later : AllByRecursion (λ y. x.project ≤ y.project) xs =
      all-of-map (λ c. x.project ≤ c) xs
      (set-all (λ c. x.project ≤ c) (x.project + 1) (projects e) (map (λ y. y.project) xs) rising.2
      (λ j above below. omega arith)) in
      inr (record {
        c = x.project;
        s = group.0;
        is = rw yes' (ap (Failed x.project) group.2);
        largest = elim group.1 [
          | inl largest ↦ largest
          | inr none ↦ (let some = each.0.falls_short.0 yes' in absurd (none.0 some.0 some.1))
        ];
        lowest = (
          inr (omega arith),
          all-weaker (λ y. x.project ≤ y.project)
              (λ y. NoneFallsShort m e w y.project ⊎ (x.project ≤ y.project)) xs (λ y le. inr le) later,
        );
      })
  | inr no' ↦
      let none : NoneFallsShort m e w x.project =
      λ t short. false≢true (sym no' ∙ each.0.falls_short.1 (t, short)) in
      elim (first-or m e w (x.project + 1) xs each.1 rising.2) [
        | inl rest ↦ inl (rw no' rest.0, (none, rest.1))
        | inr rest ↦
            inr (record {
              c = rest.c;
              s = rest.s;
              is = rw no' rest.is;
              largest = rest.largest;
              lowest = (inl none, rest.lowest);
            })
      ]
]
  where
    all-of-map : (P : ℕ → Type 0) (ys : List GroupFigures) → AllByRecursion P (map (λ y. y.project) ys)
        → AllByRecursion (λ y. P y.project) ys
    all-of-map P [] h = tt
    all-of-map P (y ∷ ys) h = (h.0, all-of-map P ys h.1)

-- each project for which a group falls short is among the unfunded ones with a supporter
short-wanted : (m : Measure) (e : Instance) (w : List Bool) (t : List ℕ) (c : ℕ) → FallsShort m e w t c
    → Contains (wanted e w) c
short-wanted m e w t c short =
    let all = range-has (projects e) 1 c short.unfunded.0.0 (omega (arith, short.unfunded.0.1)) in
    let unfunded = filter-has (λ j. not (has w j)) (all_projects e) all.0 c all.1 all.2 (rw short.unfunded.1 refl) in
    filter-has (λ j. nat_lt 0 (length (supporters e j))) _ unfunded.0 c unfunded.1 unfunded.2
    (lt-ltb 0 (length (supporters e c)) (some t short.not_empty (each-supports e t c short.group)))
  where
    some : (u : List ℕ) → u ≢ [] → AllByRecursion (λ i. IsVoter e i × (approves e i c ≡ true)) u
        → 0 < length (supporters e c)
    some [] any each = absurd (any refl)
    some (i ∷ is) any each =
        let voter = range-has (voters e) 1 i each.0.0.0 (omega (arith, each.0.0.1)) in
        let supporter = filter-has (λ j. approves e j c) (all_voters e) voter.0 i voter.1 voter.2 each.0.1 in
        omega (arith, supporter.1)

-- what holds of the project of each of the figures holds of each for which a group falls short
of-short : (P : ℕ → Type 0) (m : Measure) (e : Instance) (w : List Bool) (xs : List GroupFigures) (t : List ℕ) (c : ℕ)
    → map (λ x. x.project) xs ≡ wanted e w → AllByRecursion (λ x. P x.project) xs → FallsShort m e w t c → P c
of-short P m e w xs t c are each short =
    All-contains P (wanted e w) c
    (All-from_recursion P (wanted e w) (subst (AllByRecursion P) are (all-map P (λ (x : GroupFigures). x.project) xs each)))
    (short-wanted m e w t c short)

-- Nobody falls short, or the verdict names the first project with its largest group.
pub told : (m : Measure) (e : Instance) (w : List Bool) (xs : List GroupFigures) → AreAllFigures m e w xs
    → ((verdict_of xs ≡ Satisfied) × SatisfiesEjrPlus m e w)
    ⊎ ((c : ℕ) × (s : List ℕ) × (verdict_of xs ≡ Failed c (length s)) × IsFirstShort m e w s c)
told m e w xs are =
    elim (first-or m e w 1 xs (recursion_from_All (AreFiguresOf m e w) xs are.each)
    (subst (IsSet 1 (projects e)) (sym are.projects) wanted-set)) [
      | inl none ↦
          inl (none.0, λ t c short. of-short (NoneFallsShort m e w) m e w xs t c are.projects none.1 short t short)
      | inr first ↦
          inr (
            first.c,
            first.s,
            first.is,
            record {
              largest = first.largest;
              lowest = λ t d short. elim (of-short (λ j. NoneFallsShort m e w j ⊎ (first.c ≤ j)) m e w xs t d are.projects
                  first.lowest short) [
                    | inl none ↦ absurd (none t short)
                    | inr le ↦ le
                  ];
            },
          )
    ]
  where
    wanted-set : IsSet 1 (projects e) (wanted e w)
    wanted-set =
        subst (IsSet 1 (projects e))
        (sym (filter-filter (λ c. nat_lt 0 (length (supporters e c))) (λ c. not (has w c)) (all_projects e)))
        (filter-set (λ c. not (has w c) && nat_lt 0 (length (supporters e c))) (projects e) 1 (projects e) (omega arith))

-- so of one first project there is one largest group
one-first : (m : Measure) (e : Instance) (w : List Bool) (s t : List ℕ) (c d : ℕ) → IsFirstShort m e w s c
    → IsFirstShort m e w t d
    → (c ≡ d) × (s ≡ t)
one-first m e w s t c d a b =
    let le : c ≤ d = a.lowest t d b.largest.short in
    let ge : d ≤ c = b.lowest s c a.largest.short in
    let same : c ≡ d = omega arith in
    (same, one-largest m e w s t d (subst (IsLargestShort m e w s) same a.largest) b.largest)

-- the three clauses of the verdict
pub satisfied-is : (m : Measure) (e : Instance) (w : List Bool) (xs : List GroupFigures) → AreAllFigures m e w xs
    → (verdict_of xs ≡ Satisfied) ↔ SatisfiesEjrPlus m e w
satisfied-is m e w xs are = elim (told m e w xs are) [
  | inl yes' ↦ (λ h. yes'.1, λ h. yes'.0)
  | inr no' ↦ (
    λ h. absurd (differ no'.0 (length no'.1) (sym no'.2 ∙ h)),
    λ h. absurd (h no'.1 no'.0 no'.3.largest.short),
  )
]
  where
    differ : (c k : ℕ) → Failed c k ≡ Satisfied → ⊥
    differ c k h = cc

pub failed-is : (m : Measure) (e : Instance) (w : List Bool) (xs : List GroupFigures) (c k : ℕ)
    → AreAllFigures m e w xs → verdict_of xs ≡ Failed c k
    → (s : List ℕ) × IsFirstShort m e w s c × (length s ≡ k)
failed-is m e w xs c k are is = elim (told m e w xs are) [
  | inl yes' ↦ absurd (differ c k (sym is ∙ yes'.0))
  | inr no' ↦
      let same : Failed no'.0 (length no'.1) ≡ Failed c k = sym no'.2 ∙ is in
      let one : no'.0 ≡ c = cc in
      let two : length no'.1 ≡ k = cc in
      (no'.1, subst (IsFirstShort m e w no'.1) one no'.3, two)
]
  where
    differ : (c' k' : ℕ) → Failed c' k' ≡ Satisfied → ⊥
    differ c' k' h = cc

pub first-is : (m : Measure) (e : Instance) (w : List Bool) (xs : List GroupFigures) (s : List ℕ) (c : ℕ)
    → AreAllFigures m e w xs → IsFirstShort m e w s c
    → verdict_of xs ≡ Failed c (length s)
first-is m e w xs s c are first = elim (told m e w xs are) [
  | inl yes' ↦ absurd (yes'.1 s c first.largest.short)
  | inr no' ↦
      let same = one-first m e w no'.1 s no'.0 c no'.3 first in
      no'.2 ∙ ap2 Failed same.0 (ap length same.1)
]
  where
    ap2 : (f : ℕ → ℕ → GroupsVerdict) → {a b k l : ℕ} → a ≡ b → k ≡ l → f a k ≡ f b l
    ap2 f {a} {b} {k} {l} h i = ap (λ x. f x k) h ∙ ap (f b) i

-- the first one that passes, as a loop finds it
pub found-here : (q : GroupFigures → Bool) (xs : List GroupFigures) (k : ℕ) (d : GroupFigures) → find q (take k xs) ≡ None
    → k < length xs → q (get_or xs k d) ≡ true
    → find q xs ≡ Some (get_or xs k d)
found-here q [] k d none h pass = absurd (omega arith)
found-here q (x ∷ xs) zero d none h pass = rw pass refl
found-here q (x ∷ xs) (suc k) d none h pass = go (q x) none (λ rest. found-here q xs k d rest (omega arith) pass)
  where
    go : (b : Bool) → cond b (Some x) (find q (take k xs)) ≡ None
        → (find q (take k xs) ≡ None → find q xs ≡ Some (get_or xs k d))
        → cond b (Some x) (find q xs) ≡ Some (get_or xs k d)
    go true none' later = cc
    go false none' later = later none'

found-suc : (q : GroupFigures → Bool) (xs : List GroupFigures) (k : ℕ) (d : GroupFigures) → find q (take k xs) ≡ None
    → k < length xs → q (get_or xs k d) ≡ false
    → find q (take (suc k) xs) ≡ None
found-suc q [] k d none h fail = refl
found-suc q (x ∷ xs) zero d none h fail = rw fail refl
found-suc q (x ∷ xs) (suc k) d none h fail = go (q x) none (λ rest. found-suc q xs k d rest (omega arith) fail)
  where
    go : (b : Bool) → cond b (Some x) (find q (take k xs)) ≡ None
        → (find q (take k xs) ≡ None → find q (take (suc k) xs) ≡ None)
        → cond b (Some x) (find q (take (suc k) xs)) ≡ None
    go true none' later = cc
    go false none' later = later none'

pub found-more : (q : GroupFigures → Bool) (xs : List GroupFigures) (k : ℕ) (d : GroupFigures) → find q (take k xs) ≡ None
    → k < length xs → q (get_or xs k d) ≡ false
    → find q (take (k + 1) xs) ≡ None
found-more q xs k d none h fail =
    let one : k + 1 ≡ suc k = omega arith in ap (λ n. find q (take n xs)) one ∙ found-suc q xs k d none h fail
