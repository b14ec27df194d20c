-- The findings on the projects with one more project that was looked at.
use Rattle.std.proofs.Common.{◌≡◌, ℕ, ◌+◌, ◌^◌, ◌≤◌, Bool, true, false, cond, List, get_or, ◌-◌, refl, ◌∙◌, sym, ap, subst, arith}
use Rattle.std.specs.Prelude.{ℤ, pos, ◌==◌, ◌&&◌, int_le, int_lt, not}
use Rattle.std.proofs.lemmas.Int.{ints}
use Rattle.pb_money.specs.Grains.{cost_grains}
use Rattle.pb_election.specs.Instance.{Instance, IsProject, cost_of}
use Rattle.pb_election.specs.Outcome.{has}
use Rattle.pb_election.specs.Text.{IsElection}
use Rattle.pb_price.specs.Inside.Noted.{IsFindingTo, noted}
use Rattle.pb_price.specs.Inside.Looked.{AreFoundTo, AreSmallFindings, IsSmallComparison, IsSmallFinding, compared, has_room, with_funded, with_unfunded}
use Rattle.pb_price.specs.Inside.Tallies.{AreInRange, IsWithin, has_more, in_vain, not_exactly, sums_of}
use Rattle.pb_price.specs.declared.Finding.{Finding}
use Rattle.pb_price.specs.declared.explaining.ProjectFindings.{ProjectFindings}
use Rattle.pb_price.specs.declared.tally.ProjectSums.{ProjectSums}
use Rattle.pb_price.proofs.Ballots.{nothing}
use Rattle.pb_price.proofs.OneMore.{finding-next, nothing_found, tried}
use Rattle.pb_price.proofs.Ranges.{cost_of-most, grains-most}

abbrev pub found : Finding → Finding → Finding → Finding → Finding → ProjectFindings
found a b c d e = record { exhaustive = a; c3 = b; c4 = c; c5 = d; s5 = e }

pub found-same : (a a' b b' c c' d d' e e' : Finding) → a ≡ a' → b ≡ b' → c ≡ c' → d ≡ d' → e ≡ e'
    → found a b c d e ≡ found a' b' c' d' e'
found-same a a' b b' c c' d d' e e' p q r s t = rw (p, q, r, s, t) refl

-- nothing was looked at
pub found-none : (e : Instance) (w : List Bool) (d : ℕ) (remaining : ℤ) (sums : List ProjectSums)
    → AreFoundTo 0 e w d remaining sums (found nothing_found nothing_found nothing_found nothing_found nothing_found)
found-none e w d remaining sums = grind arith

none-small : IsSmallFinding 0 nothing_found
none-small = record { count = omega arith; shown = tt }

pub small-none : AreSmallFindings 0 (found nothing_found nothing_found nothing_found nothing_found nothing_found)
small-none = record { exhaustive = none-small; c3 = none-small; c4 = none-small; c5 = none-small; s5 = none-small }

-- one more funded project
pub funded-next : (n : ℕ) (e : Instance) (w : List Bool) (d : ℕ) (remaining : ℤ) (sums : List ProjectSums)
    (f : ProjectFindings) → AreFoundTo n e w d remaining sums f → has w (n + 1) ≡ true
    → AreFoundTo (n + 1) e w d remaining sums
    (with_funded (n + 1) (cost_grains (cost_of e (n + 1)) d) (sums_of sums (n + 1)).paid f)
funded-next n e w d remaining sums f h is_one = record {
  exhaustive = finding-next (has_room e w d remaining) (λ c. not (has w c)) (λ c. cost_grains (cost_of e c) d)
      (λ c. remaining) n f.exhaustive h.exhaustive false false
      (ap (λ b. not b && int_le (pos (cost_grains (cost_of e (n + 1)) d)) remaining) is_one) (ap not is_one);
  c3 = go ((sums_of sums (n + 1)).paid == cost_grains (cost_of e (n + 1)) d) refl;
  c4 = finding-next (in_vain w sums) (λ c. false) (λ c. 0) (λ c. pos (sums_of sums c).paid) n f.c4 h.c4 false false
      (ap (λ b. not b && not ((sums_of sums (n + 1)).paid == 0)) is_one) refl;
  c5 = finding-next (has_more e w d false sums) (λ c. not (has w c)) (λ c. cost_grains (cost_of e c) d)
      (λ c. (sums_of sums c).left) n f.c5 h.c5 false false
      (ap (λ b. not b && int_lt (pos (cost_grains (cost_of e (n + 1)) d)) (sums_of sums (n + 1)).left) is_one)
      (ap not is_one);
  s5 = finding-next (has_more e w d true sums) (λ c. not (has w c)) (λ c. cost_grains (cost_of e c) d)
      (λ c. (sums_of sums c).offer) n f.s5 h.s5 false false
      (ap (λ b. not b && int_lt (pos (cost_grains (cost_of e (n + 1)) d)) (sums_of sums (n + 1)).offer) is_one)
      (ap not is_one);
}
  where
    go : (b : Bool) → (sums_of sums (n + 1)).paid == cost_grains (cost_of e (n + 1)) d ≡ b
        → IsFindingTo (n + 1) (not_exactly e w d sums) (λ c. false) (λ c. cost_grains (cost_of e c) d)
        (λ c. pos (sums_of sums c).paid)
        (cond b f.c3
        (noted true (compared (n + 1) (cost_grains (cost_of e (n + 1)) d) (pos (sums_of sums (n + 1)).paid)) f.c3))
    go true is =
        finding-next (not_exactly e w d sums) (λ c. false) (λ c. cost_grains (cost_of e c) d)
        (λ c. pos (sums_of sums c).paid) n f.c3 h.c3 false false
        (ap (λ b. b && not ((sums_of sums (n + 1)).paid == cost_grains (cost_of e (n + 1)) d)) is_one ∙ ap not is) refl
    go false is =
        finding-next (not_exactly e w d sums) (λ c. false) (λ c. cost_grains (cost_of e c) d)
        (λ c. pos (sums_of sums c).paid) n f.c3 h.c3 true false
        (ap (λ b. b && not ((sums_of sums (n + 1)).paid == cost_grains (cost_of e (n + 1)) d)) is_one ∙ ap not is) refl

-- one more unfunded project
pub unfunded-next : (n : ℕ) (e : Instance) (w : List Bool) (d : ℕ) (remaining : ℤ) (sums : List ProjectSums)
    (f : ProjectFindings) → AreFoundTo n e w d remaining sums f → has w (n + 1) ≡ false
    → AreFoundTo (n + 1) e w d remaining sums
    (with_unfunded (n + 1) (cost_grains (cost_of e (n + 1)) d) remaining (sums_of sums (n + 1)) f)
unfunded-next n e w d remaining sums f h is_none = record {
  exhaustive = tried (has_room e w d remaining) (λ c. not (has w c)) (λ c. cost_grains (cost_of e c) d) (λ c. remaining)
      n f.exhaustive _ h.exhaustive
      (ap (λ b. not b && int_le (pos (cost_grains (cost_of e (n + 1)) d)) remaining) is_none) (ap not is_none);
  c3 = finding-next (not_exactly e w d sums) (λ c. false) (λ c. cost_grains (cost_of e c) d)
      (λ c. pos (sums_of sums c).paid) n f.c3 h.c3 false false
      (ap (λ b. b && not ((sums_of sums (n + 1)).paid == cost_grains (cost_of e (n + 1)) d)) is_none) refl;
  c4 = go ((sums_of sums (n + 1)).paid == 0) refl;
  c5 = tried (has_more e w d false sums) (λ c. not (has w c)) (λ c. cost_grains (cost_of e c) d)
      (λ c. (sums_of sums c).left) n f.c5 _ h.c5
      (ap (λ b. not b && int_lt (pos (cost_grains (cost_of e (n + 1)) d)) (sums_of sums (n + 1)).left) is_none)
      (ap not is_none);
  s5 = tried (has_more e w d true sums) (λ c. not (has w c)) (λ c. cost_grains (cost_of e c) d)
      (λ c. (sums_of sums c).offer) n f.s5 _ h.s5
      (ap (λ b. not b && int_lt (pos (cost_grains (cost_of e (n + 1)) d)) (sums_of sums (n + 1)).offer) is_none)
      (ap not is_none);
}
  where
    go : (b : Bool) → (sums_of sums (n + 1)).paid == 0 ≡ b
        → IsFindingTo (n + 1) (in_vain w sums) (λ c. false) (λ c. 0) (λ c. pos (sums_of sums c).paid)
        (cond b f.c4 (noted true (compared (n + 1) 0 (pos (sums_of sums (n + 1)).paid)) f.c4))
    go true is =
        finding-next (in_vain w sums) (λ c. false) (λ c. 0) (λ c. pos (sums_of sums c).paid) n f.c4 h.c4 false false
        (ap (λ b. not b && not ((sums_of sums (n + 1)).paid == 0)) is_none ∙ ap not is) refl
    go false is =
        finding-next (in_vain w sums) (λ c. false) (λ c. 0) (λ c. pos (sums_of sums c).paid) n f.c4 h.c4 true false
        (ap (λ b. not b && not ((sums_of sums (n + 1)).paid == 0)) is_none ∙ ap not is) refl

-- the same by the cost and the sums that were read
pub funded-then : (n : ℕ) (e : Instance) (w : List Bool) (d : ℕ) (remaining : ℤ) (sums : List ProjectSums)
    (f new : ProjectFindings) (cost : ℕ) (s : ProjectSums) → AreFoundTo n e w d remaining sums f → has w (n + 1) ≡ true
    → cost ≡ cost_grains (cost_of e (n + 1)) d → s ≡ get_or sums n nothing → new ≡ with_funded (n + 1) cost s.paid f
    → AreFoundTo (n + 1) e w d remaining sums new
funded-then n e w d remaining sums f new cost s h is cost_is sums_are new_is =
    let place : n ≡ n + 1 - 1 = omega arith in
    subst (λ x. AreFoundTo (n + 1) e w d remaining sums x)
    (sym (new_is ∙ ap (λ k. with_funded (n + 1) k s.paid f) cost_is
    ∙ ap (λ x. with_funded (n + 1) (cost_grains (cost_of e (n + 1)) d) x.paid f)
    (sums_are ∙ ap (λ k. get_or sums k nothing) place)))
    (funded-next n e w d remaining sums f h is)

pub unfunded-then : (n : ℕ) (e : Instance) (w : List Bool) (d : ℕ) (remaining : ℤ) (sums : List ProjectSums)
    (f new : ProjectFindings) (cost : ℕ) (s : ProjectSums) → AreFoundTo n e w d remaining sums f → has w (n + 1) ≡ false
    → cost ≡ cost_grains (cost_of e (n + 1)) d → s ≡ get_or sums n nothing
    → new ≡ with_unfunded (n + 1) cost remaining s f → AreFoundTo (n + 1) e w d remaining sums new
unfunded-then n e w d remaining sums f new cost s h is cost_is sums_are new_is =
    let place : n ≡ n + 1 - 1 = omega arith in
    subst (λ x. AreFoundTo (n + 1) e w d remaining sums x)
    (sym (new_is ∙ ap (λ k. with_unfunded (n + 1) k remaining s f) cost_is
    ∙ ap (λ x. with_unfunded (n + 1) (cost_grains (cost_of e (n + 1)) d) remaining x f)
    (sums_are ∙ ap (λ k. get_or sums k nothing) place)))
    (unfunded-next n e w d remaining sums f h is)

pub small-funded : (n cost paid : ℕ) (c : ℕ) (f : ProjectFindings) → IsSmallComparison (compared c cost (pos paid))
    → AreSmallFindings n f → AreSmallFindings (n + 1) (with_funded c cost paid f)
small-funded n cost paid c f m h = grind arith

pub small-unfunded : (n c cost : ℕ) (remaining : ℤ) (s : ProjectSums) (f : ProjectFindings) → cost ≤ 10 ^ 34
    → IsWithin (10 ^ 38) remaining → IsWithin (10 ^ 38) (pos s.paid) → AreInRange s → AreSmallFindings n f
    → AreSmallFindings (n + 1) (with_unfunded c cost remaining s f)
small-unfunded n c cost remaining s f k r p m h = grind arith

-- what is known of the next project
pub paid-in-range : (s : ProjectSums) → AreInRange s → IsWithin (10 ^ 38) (pos s.paid)
paid-in-range s h = let n = h.paid in (omega (arith, ints), omega (arith, ints))

pub sums-in-range : (e : Instance) (sums : List ProjectSums) (n : ℕ)
    → ((c : ℕ) → IsProject e c → AreInRange (sums_of sums c)) → IsProject e (n + 1) → AreInRange (get_or sums n nothing)
sums-in-range e sums n h ip = let place : n + 1 - 1 ≡ n = omega arith in
    subst (λ k. AreInRange (get_or sums k nothing)) place (h (n + 1) ip)

pub cost-in-range : (e : Instance) (d c cost : ℕ) → IsElection e → d ≤ 10 ^ 9 → IsProject e c
    → cost ≡ cost_grains (cost_of e c) d → cost ≤ 10 ^ 34
cost-in-range e d c cost h l ip is = omega (arith, is, grains-most (cost_of e c) d (cost_of-most e c h ip) l)
