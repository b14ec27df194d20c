-- The group that is shown for a project is the only one, and has all supporters that got at most as much as one of it.
use Rattle.std.proofs.Common.{◌≡◌, ℕ, zero, suc, ◌*◌, ◌<◌, ◌≤◌, Bool, true, List, [], ◌∷◌, length, get_or, refl, sym, ◌∙◌, ap, inl, inr, arith}
use Rattle.std.specs.Prelude.{◌≢◌, ◌==◌, All, Contains, filter, sum_by}
use Rattle.std.specs.List.{range_with_len}
use Rattle.std.proofs.lemmas.Bool.{cases_Bool, eq-eqb, false≢true}
use Rattle.std.proofs.lemmas.List.Elements.{All-from_recursion, recursion_from_All}
use Rattle.std.proofs.Math.Bool.{or-true}
use Rattle.std.proofs.Math.Nat.{mul-le-mul_left, mul-le-mul_right}
use Rattle.pb_records.proofs.Each.{all-both, all-weaker}
use Rattle.pb_records.proofs.Lists.{filter-same}
use Rattle.pb_election.specs.Instance.{Instance, IsSet, IsVoter, approves, voters}
use Rattle.pb_certificate.specs.declared.violations.measure.Measure.{Measure}
use Rattle.pb_cohesion.specs.Closest.{IsClosest, IsShown, WantUnfunded, group_need, most_got, up_to}
use Rattle.pb_cohesion.specs.Groups.{IsGroupWithin}
use Rattle.pb_cohesion.specs.Short.{FallsShort, IsLargestShort, got, need}
use Rattle.pb_cohesion.proofs.Ballots.{set-is}
use Rattle.pb_cohesion.proofs.Sets.{set-le-filter}
use Rattle.pb_cohesion.proofs.Supported.{each-supports, largest-all, largest-le, largest-some, need-rises, up_to-all, up_to-group, up_to-has}
use Rattle.pb_cohesion.proofs.Sums.{all-among, among, sum-const}

contains-among : (t : List ℕ) (k j : ℕ) → k < length t → get_or t k j ≡ j → among t j ≡ true
contains-among [] k j h is = absurd (omega arith)
contains-among (x ∷ xs) zero j h is = rw (eq-eqb x j is) refl
contains-among (x ∷ xs) (suc k) j h is = rw (contains-among xs k j (omega arith) is) (or-true (x == j))

-- two sets that are parts of each other are the same
pub same-sets : (n : ℕ) (s t : List ℕ) → IsSet 1 n s → IsSet 1 n t → All (λ j. Contains s j) t
    → All (λ j. Contains t j) s
    → s ≡ t
same-sets n s t rise_s rise_t in_s in_t =
    sym (set-is n 1 n s (omega arith) rise_s)
    ∙ filter-same (among s) (among t) n 1 (λ j low high. same j)
    ∙ set-is n 1 n t (omega arith) rise_t
  where
    into : (a b : List ℕ) (j : ℕ) → All (λ i. Contains b i) a → among a j ≡ true → among b j ≡ true
    into a b j each h =
        let at : Contains b j =
        all-among (λ i. Contains b i) a j (recursion_from_All (λ i. Contains b i) a each) h in
        contains-among b at.0 j at.1 at.2

    same : (j : ℕ) → among s j ≡ among t j
    same j = elim (cases_Bool (among s j)) [
      | inl yes' ↦ yes' ∙ sym (into s t j in_t yes')
      | inr no' ↦
          elim (cases_Bool (among t j)) [
            | inl yes'' ↦ absurd (false≢true (sym no' ∙ into t s j in_s yes''))
            | inr no'' ↦ no' ∙ sym no''
          ]
    ]

-- a group is a part of the supporters that got at most as much as one of it, and has no more members
part : (m : Measure) (e : Instance) (w : List Bool) (s : List ℕ) (c : ℕ) → IsGroupWithin e s c
    → All (λ i. Contains (up_to m e w c (most_got m e w s)) i) s
part m e w s c group =
    All-from_recursion (λ i. Contains (up_to m e w c (most_got m e w s)) i) s
    (all-both (λ i. IsVoter e i × (approves e i c ≡ true)) (λ i. got m e w i ≤ most_got m e w s)
    (λ i. Contains (up_to m e w c (most_got m e w s)) i) s
    (λ i supports le. up_to-has m e w c (most_got m e w s) i supports.0 supports.1 le) (each-supports e s c group)
    (largest-all (got m e w) s))

same-most : (m : Measure) (e : Instance) (w : List Bool) (s : List ℕ) (c : ℕ)
    → most_got m e w (up_to m e w c (most_got m e w s)) ≤ most_got m e w s
same-most m e w s c =
    largest-le (got m e w) (up_to m e w c (most_got m e w s)) (most_got m e w s) (up_to-all m e w c (most_got m e w s))

no-fewer : (n : ℕ) (s t : List ℕ) → IsSet 1 n s → IsSet 1 n t → All (λ i. Contains t i) s → length s ≤ length t
no-fewer n s t rise_s rise_t in_t =
    let le : sum_by (λ i. 1) s ≤ sum_by (λ i. 1) (filter (among t) (range_with_len 1 n)) =
    set-le-filter (λ i. 1) (among t) n s rise_s
    (all-weaker (λ i. Contains t i) (λ i. among t i ≡ true) s (λ i at. contains-among t at.0 i at.1 at.2)
    (recursion_from_All (λ i. Contains t i) s in_t)) in
    let is : sum_by (λ i. 1) (filter (among t) (range_with_len 1 n)) ≡ sum_by (λ i. 1) t =
    ap (sum_by (λ i. 1)) (set-is n 1 n t (omega arith) rise_t) in
    omega (arith, le, is, sum-const 1 s, sum-const 1 t)

not_none : (s t : List ℕ) → s ≢ [] → length s ≤ length t → t ≢ []
not_none [] t some le e = some refl
not_none (x ∷ xs) [] some le e = omega arith
not_none (x ∷ xs) (y ∷ ys) some le e = cc

-- of the largest group that falls short
short-members : (m : Measure) (e : Instance) (w : List Bool) (s : List ℕ) (c : ℕ) → IsLargestShort m e w s c
    → up_to m e w c (most_got m e w s) ≡ s
short-members m e w s c largest =
    let short = largest.short in
    let g = most_got m e w s in
    let all = up_to m e w c g in
    let group = up_to-group m e w c g in
    let within = part m e w s c short.group in
    let few : length s ≤ length all = no-fewer (voters e) s all short.group.0 group.0 within in
    let enough : voters e * need m e c g ≤ length s * e.limit =
    largest-some (λ n. voters e * need m e c n ≤ length s * e.limit) (got m e w) s short.not_empty
    (recursion_from_All (λ i. voters e * need m e c (got m e w i) ≤ length s * e.limit) s short.enough) in
    let share : length s * e.limit ≤ length all * e.limit = mul-le-mul_right e.limit few in
    let all_short : FallsShort m e w all c = record {
      not_empty = not_none s all short.not_empty few;
      unfunded = short.unfunded;
      group = group;
      enough = All-from_recursion (λ i. voters e * need m e c (got m e w i) ≤ length all * e.limit) all
          (all-weaker (λ i. got m e w i ≤ g) (λ i. voters e * need m e c (got m e w i) ≤ length all * e.limit) all
          (λ i le. let less : voters e * need m e c (got m e w i) ≤ voters e * need m e c g =
          mul-le-mul_left (voters e) (need-rises m e c (got m e w i) g le) in omega (arith, less, enough, share))
          (up_to-all m e w c g));
    } in
    same-sets (voters e) all s group.0 short.group.0 within (largest.largest all all_short)

-- and of the closest one
closest-members : (m : Measure) (e : Instance) (w : List Bool) (s : List ℕ) (c : ℕ) → IsClosest m e w s c
    → up_to m e w c (most_got m e w s) ≡ s
closest-members m e w s c closest =
    let wants = closest.wants in
    let g = most_got m e w s in
    let all = up_to m e w c g in
    let group = up_to-group m e w c g in
    let within = part m e w s c wants.2 in
    let few : length s ≤ length all = no-fewer (voters e) s all wants.2.0 group.0 within in
    let all_wants : WantUnfunded e w all c = (not_none s all wants.0 few, wants.1, group) in
    let no_closer : length all * group_need m e w s c ≤ length s * group_need m e w all c =
    closest.closest all all_wants in
    let needs_less : group_need m e w all c ≤ group_need m e w s c =
    need-rises m e c (most_got m e w all) g (same-most m e w s c) in
    let one : length s * group_need m e w all c ≤ length s * group_need m e w s c =
    mul-le-mul_left (length s) needs_less in
    let two : length s * group_need m e w s c ≤ length all * group_need m e w s c =
    mul-le-mul_right (group_need m e w s c) few in
    same-sets (voters e) all s group.0 wants.2.0 within
    (closest.largest all all_wants (omega (arith, no_closer, one, two)))

pub shown-members : (m : Measure) (e : Instance) (w : List Bool) (s : List ℕ) (c : ℕ) → IsShown m e w s c
    → up_to m e w c (most_got m e w s) ≡ s
shown-members m e w s c (inl largest) = short-members m e w s c largest
shown-members m e w s c (inr closest) = closest-members m e w s c closest.1

-- two largest groups that fall short for one project are the same
pub one-largest : (m : Measure) (e : Instance) (w : List Bool) (s t : List ℕ) (c : ℕ) → IsLargestShort m e w s c
    → IsLargestShort m e w t c
    → s ≡ t
one-largest m e w s t c a b =
    same-sets (voters e) s t a.short.group.0 b.short.group.0 (a.largest t b.short) (b.largest s a.short)
