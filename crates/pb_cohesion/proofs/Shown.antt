-- The group that is shown for a project, by what stands for it after all voters.
use Rattle.std.proofs.Common.{◌≡◌, ℕ, ◌+◌, ◌-◌, ◌*◌, ◌<◌, ◌≤◌, Bool, true, false, List, [], ◌∷◌, length, get_or, sym, ◌∙◌, ap, subst, inl, inr, arith}
use Rattle.std.specs.Prelude.{◌≢◌, sum_by}
use Rattle.std.proofs.lemmas.Bool.{cases_Bool, cases_lt, false≢true, leb-false, leb-true}
use Rattle.std.proofs.lemmas.List.Elements.{All-from_recursion}
use Rattle.std.proofs.Math.Nat.{mul-le-mul_left, mul-le-mul_right}
use Rattle.pb_election.specs.Instance.{Instance, supporters, voters}
use Rattle.pb_certificate.specs.declared.violations.measure.Measure.{Measure}
use Rattle.pb_records.proofs.Each.{all-weaker}
use Rattle.pb_cohesion.specs.Closest.{AreFiguresOf, IsClosest, NoneFallsShort, WantUnfunded, group_need, most_got, up_to}
use Rattle.pb_cohesion.specs.Inside.Counting.{AreByGot, Stand, gots}
use Rattle.pb_cohesion.specs.Outcome.{IsUnfunded}
use Rattle.pb_cohesion.specs.Short.{IsLargestShort, got, need}
use Rattle.pb_cohesion.specs.declared.GroupFigures.{GroupFigures}
use Rattle.pb_cohesion.proofs.Order.{gots-rise, supporters-sum}
use Rattle.pb_cohesion.proofs.Rising.{Rises, at_most}
use Rattle.pb_cohesion.proofs.Sums.{sum-const}
use Rattle.pb_cohesion.proofs.Supported.{need-rises, up_to-all, up_to-group, up_to-length}
use Rattle.pb_cohesion.proofs.Placed.{bound-is, exactly, part-of, place, short-place}

-- The group that stands for an unfunded project with supporters: how many members it has, and the most that one got.
record Group (m : Measure) (e : Instance) (w : List Bool) (c : ℕ) (order : List (ℕ × ℕ)) (x : GroupFigures) : Type 0 where
  some : 0 < x.voters
  need : x.need ≡ need m e c x.most
  count : at_most x.most (gots e w c order) ≡ x.voters
  long : length (up_to m e w c x.most) ≡ x.voters
  most : most_got m e w (up_to m e w c x.most) ≡ x.most
  wants : WantUnfunded e w (up_to m e w c x.most) c

group-stands : (m : Measure) (e : Instance) (w : List Bool) (c : ℕ) (order : List (ℕ × ℕ)) (x : GroupFigures)
    → AreByGot m e w order → IsUnfunded e w c → Stand m e c (gots e w c order) x → 0 < x.supporters
    → Group m e w c order x
group-stands m e w c order x by unfunded s some =
    let xs = gots e w c order in
    let rises : Rises 0 xs = gots-rise e w c 0 order by.rising (λ k d within. omega arith) in
    let any : 0 < x.voters = s.some (omega (arith, s.supporters)) in
    let last : get_or xs (x.voters - 1) 0 ≡ x.most = s.most any in
    let count : at_most x.most xs ≡ x.voters = exactly xs x.voters x.most rises any s.within last
    (λ k low high le. later any k low high le) in
    let long : length (up_to m e w c x.most) ≡ x.voters =
    up_to-length m e w c x.most order by unfunded.1 ∙ count in
    record {
      some = any;
      need = s.needs any;
      count = count;
      long = long;
      most = subst (λ g. most_got m e w (up_to m e w c g) ≡ g) last
          (bound-is m e w c (x.voters - 1) order by unfunded.1 (omega (arith, s.within)));
      wants = (not_none (up_to m e w c x.most) (omega (arith, long)), unfunded, up_to-group m e w c x.most);
    }
  where
    not_none : (t : List ℕ) → 0 < length t → t ≢ []
    not_none [] h e' = omega arith
    not_none (y ∷ ys) h e' = cc

    later : 0 < x.voters → (k : ℕ) → x.voters ≤ k → k < length (gots e w c order) → get_or (gots e w c order) k 0 ≤ x.most
        → ⊥
    later any k low high le =
        let n = need m e c (get_or (gots e w c order) k 0) in
        let rise : n ≤ need m e c x.most = need-rises m e c (get_or (gots e w c order) k 0) x.most le in
        let needed : x.need ≡ need m e c x.most = s.needs any in
        elim (cases_Bool x.falls_short) [
          | inl yes' ↦
              let enough : voters e * x.need ≤ x.voters * e.limit =
              leb-true (voters e * x.need) (x.voters * e.limit) (s.enough yes').1 in
              let not_enough : (k + 1) * e.limit < voters e * n =
              leb-false (voters e * n) ((k + 1) * e.limit) (s.last yes' k low high) in
              let less : voters e * n ≤ voters e * x.need = mul-le-mul_left (voters e) (omega (arith, rise, needed)) in
              let more : x.voters * e.limit ≤ (k + 1) * e.limit = mul-le-mul_right e.limit (omega arith) in
              absurd (omega (arith, enough, not_enough, less, more))
          | inr no' ↦
              let farther : (k + 1) * x.need < x.voters * n = s.largest no' k low high in
              let less : x.voters * n ≤ x.voters * x.need = mul-le-mul_left x.voters (omega (arith, rise, needed)) in
              let more : x.voters * x.need ≤ (k + 1) * x.need = mul-le-mul_right x.need (omega arith) in
              absurd (omega (arith, farther, less, more))
        ]

-- where the share was enough, the group is the largest that falls short
largest-short : (m : Measure) (e : Instance) (w : List Bool) (c : ℕ) (order : List (ℕ × ℕ)) (x : GroupFigures)
    → AreByGot m e w order → IsUnfunded e w c → Stand m e c (gots e w c order) x → Group m e w c order x
    → x.falls_short ≡ true
    → IsLargestShort m e w (up_to m e w c x.most) c
largest-short m e w c order x by unfunded s g yes' =
    let xs = gots e w c order in
    let group = up_to m e w c x.most in
    let enough : voters e * x.need ≤ x.voters * e.limit =
    leb-true (voters e * x.need) (x.voters * e.limit) (s.enough yes').1 in
    let share : x.voters * e.limit ≡ length group * e.limit = ap (λ n. n * e.limit) (sym g.long) in
    record {
      short = record {
        not_empty = g.wants.0;
        unfunded = unfunded;
        group = g.wants.2;
        enough = All-from_recursion (λ i. voters e * need m e c (got m e w i) ≤ length group * e.limit) group
            (all-weaker (λ i. got m e w i ≤ x.most)
            (λ i. voters e * need m e c (got m e w i) ≤ length group * e.limit) group
            (λ i le. let less : voters e * need m e c (got m e w i) ≤ voters e * need m e c x.most =
            mul-le-mul_left (voters e) (need-rises m e c (got m e w i) x.most le) in
            let same : voters e * x.need ≡ voters e * need m e c x.most = ap (λ n. voters e * n) g.need in
            omega (arith, less, same, enough, share))
            (up_to-all m e w c x.most));
      };
      largest = λ t short.
          let p = place m e w c order t by unfunded.1 short.not_empty short.group in
          let before : p.k < x.voters = elim (cases_lt p.k x.voters) [
            | inl lt ↦ lt
            | inr ge ↦
                absurd (false≢true (sym (s.last yes' p.k ge p.within) ∙ short-place m e w c xs t short p))
          ] in
          part-of m e w c x.most order t by unfunded.1 short.group (omega (arith, p.is, before, g.count));
    }

-- where it never was, no group falls short, and the group is the closest
none-short : (m : Measure) (e : Instance) (w : List Bool) (c : ℕ) (order : List (ℕ × ℕ)) (x : GroupFigures)
    → AreByGot m e w order → IsUnfunded e w c → Stand m e c (gots e w c order) x → x.falls_short ≡ false
    → NoneFallsShort m e w c
none-short m e w c order x by unfunded s no' t short =
    let p = place m e w c order t by unfunded.1 short.not_empty short.group in
    false≢true (sym (s.never no' p.k p.within) ∙ short-place m e w c (gots e w c order) t short p)

is-closest : (m : Measure) (e : Instance) (w : List Bool) (c : ℕ) (order : List (ℕ × ℕ)) (x : GroupFigures)
    → AreByGot m e w order → IsUnfunded e w c → Stand m e c (gots e w c order) x → Group m e w c order x
    → x.falls_short ≡ false
    → IsClosest m e w (up_to m e w c x.most) c
is-closest m e w c order x by unfunded s g no' =
    let xs = gots e w c order in
    let group = up_to m e w c x.most in
    let needed : x.need ≡ group_need m e w group c = g.need ∙ ap (need m e c) (sym g.most) in
    record {
      wants = g.wants;
      closest = λ t wants.
          let p = place m e w c order t by unfunded.1 wants.0 wants.2 in
          let n = need m e c (get_or xs p.k 0) in
          let one : length t * x.need ≤ (p.k + 1) * x.need = mul-le-mul_right x.need p.few in
          let two : (p.k + 1) * x.need ≤ x.voters * n = s.closest no' p.k p.within in
          let three : x.voters * n ≤ x.voters * group_need m e w t c =
          mul-le-mul_left x.voters (need-rises m e c (get_or xs p.k 0) (most_got m e w t) p.below) in
          subst (λ k. length t * k ≤ length group * group_need m e w t c) needed
          (subst (λ k. length t * x.need ≤ k * group_need m e w t c) (sym g.long) (omega (arith, one, two, three)));
      largest = λ t wants as_close.
          let p = place m e w c order t by unfunded.1 wants.0 wants.2 in
          let n = need m e c (get_or xs p.k 0) in
          let same : length t * x.need ≡ x.voters * group_need m e w t c =
          ap (λ k. length t * k) needed ∙ as_close ∙ ap (λ k. k * group_need m e w t c) g.long in
          let before : p.k < x.voters = elim (cases_lt p.k x.voters) [
            | inl lt ↦ lt
            | inr ge ↦
                let one : length t * x.need ≤ (p.k + 1) * x.need = mul-le-mul_right x.need p.few in
                let two : (p.k + 1) * x.need < x.voters * n = s.largest no' p.k ge p.within in
                let three : x.voters * n ≤ x.voters * group_need m e w t c =
                mul-le-mul_left x.voters (need-rises m e c (get_or xs p.k 0) (most_got m e w t) p.below) in
                absurd (omega (arith, one, two, three, same))
          ] in
          part-of m e w c x.most order t by unfunded.1 wants.2 (omega (arith, p.is, before, g.count));
    }

-- what stands for an unfunded project with supporters after all voters are its figures
figures-at : (m : Measure) (e : Instance) (w : List Bool) (order : List (ℕ × ℕ)) (x : GroupFigures)
    → AreByGot m e w order → IsUnfunded e w x.project → Stand m e x.project (gots e w x.project order) x
    → 0 < x.supporters
    → AreFiguresOf m e w x
figures-at m e w order x by unfunded s some =
    let g = group-stands m e w x.project order x by unfunded s some in
    let group = up_to m e w x.project x.most in
    let count : x.supporters ≡ length (supporters e x.project) =
    s.supporters ∙ one-each (gots e w x.project order)
    ∙ supporters-sum (λ n. 1) m e w x.project order by unfunded.1 ∙ sym (one-each (supporters e x.project)) in
    let needed : x.need ≡ group_need m e w group x.project = g.need ∙ ap (need m e x.project) (sym g.most) in
    elim (cases_Bool x.falls_short) [
      | inl yes' ↦
          let largest = largest-short m e w x.project order x by unfunded s g yes' in
          record {
            supporters = count;
            falls_short = (λ h. (group, largest.short), λ h. yes');
            shown = (group, inl largest, sym g.long, sym g.most, needed);
          }
      | inr no' ↦
          let none = none-short m e w x.project order x by unfunded s no' in
          record {
            supporters = count;
            falls_short = (λ h. absurd (false≢true (sym no' ∙ h)), λ h. absurd (none h.0 h.1));
            shown = (
              group,
              inr (none, is-closest m e w x.project order x by unfunded s g no'),
              sym g.long,
              sym g.most,
              needed,
            );
          }
    ]
  where
    one-each : (xs : List ℕ) → length xs ≡ sum_by (λ n. 1) xs
    one-each xs = omega (arith, sum-const 1 xs)

pub figures-are : (m : Measure) (e : Instance) (w : List Bool) (c : ℕ) (order : List (ℕ × ℕ)) (x : GroupFigures)
    → AreByGot m e w order → IsUnfunded e w c → Stand m e c (gots e w c order) x → 0 < x.supporters
    → AreFiguresOf m e w x
figures-are m e w c order x by unfunded s some =
    figures-at m e w order x by (subst (IsUnfunded e w) (sym s.project) unfunded)
    (subst (λ j. Stand m e j (gots e w j order) x) (sym s.project) s) some
