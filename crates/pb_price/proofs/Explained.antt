-- The findings as the sums tell them are the findings on the prices.
use Rattle.std.proofs.Common.{◌≡◌, ℕ, ◌+◌, ◌*◌, ◌^◌, ◌<◌, ◌≤◌, Bool, true, false, List, [], refl, sym, ◌∙◌, ap, inl, inr, arith}
use Rattle.std.specs.Prelude.{ℤ, pos, ◌-ℤ◌, filter, int_le, nat_le}
use Rattle.std.specs.List.{range_with_len}
use Rattle.std.proofs.lemmas.Bool.{cases_lt, le-leb, lt-leb}
use Rattle.std.proofs.lemmas.Int.{ints}
use Rattle.std.proofs.lemmas.Nat.{mul-le}
use Rattle.pb_money.specs.Grains.{cost_grains}
use Rattle.pb_records.proofs.Lists.{filter-none}
use Rattle.pb_election.specs.Instance.{Instance, all_projects, all_voters, projects, supporters, voters}
use Rattle.pb_certificate.specs.Prices.{Prices}
use Rattle.pb_cohesion.specs.Amounts.{beta, budget_limit, cost, left, paid, spent}
use Rattle.pb_cohesion.specs.Conditions.{culprits_of_C1, culprits_of_C2, culprits_of_C3, culprits_of_C4, culprits_of_C5, culprits_of_Exhaustive, culprits_of_S5, most_of, sum_ℤ}
use Rattle.pb_cohesion.specs.Outcome.{total, unfunded}
use Rattle.pb_price.specs.Findings.{finding, findings, payment_finding, total_grains}
use Rattle.pb_price.specs.Inside.Looked.{AreFoundTo, has_room}
use Rattle.pb_price.specs.Inside.Tallies.{AreSums}
use Rattle.pb_price.specs.declared.Findings.{Findings}
use Rattle.pb_price.specs.declared.explaining.ProjectFindings.{ProjectFindings}
use Rattle.pb_price.specs.declared.tally.ProjectSums.{ProjectSums}
use Rattle.pb_price.proofs.Closest.{found-as}
use Rattle.pb_price.proofs.Looking.{found}
use Rattle.pb_price.proofs.Reading.{cost-at, culprits-as, exactly-is, left-at, offer-at, paid-at, plain-is, stable-is, vain-is}

-- room for one more project, in grains
room-is : (t k l d : ℕ) → 1 ≤ d → int_le (pos (k * d)) (pos (l * d) -ℤ pos (t * d)) ≡ nat_le (t + k) l
room-is t k l d low = elim (cases_lt l (t + k)) [
  | inl more ↦
      let most : (l + 1) * d ≤ (t + k) * d = mul-le (l + 1) d (t + k) d (omega arith) (omega arith) in
      let over : l * d < t * d + k * d = omega arith in
      int-above over ∙ sym (lt-leb (t + k) l more)
  | inr less ↦
      let most : (t + k) * d ≤ l * d = mul-le (t + k) d l d less (omega arith) in
      let under : t * d + k * d ≤ l * d = omega arith in
      int-below under ∙ sym (le-leb (t + k) l less)
]
  where
    int-above : l * d < t * d + k * d → int_le (pos (k * d)) (pos (l * d) -ℤ pos (t * d)) ≡ false
    int-above over = grind (arith, ints)

    int-below : t * d + k * d ≤ l * d → int_le (pos (k * d)) (pos (l * d) -ℤ pos (t * d)) ≡ true
    int-below under = grind (arith, ints)

room-culprits : (e : Instance) (w : List Bool) (d : ℕ) → 1 ≤ d
    → filter (has_room e w d (pos (cost_grains e.limit d) -ℤ pos (cost_grains (total e w) d))) (all_projects e)
    ≡ culprits_of_Exhaustive e w
room-culprits e w d low = grind (arith, culprits-as, room-is)

-- the findings on projects
pub record AreOn (e : Instance) (w : List Bool) (p : Prices) (f : ProjectFindings) : Type 0 where
  pub exhaustive : f.exhaustive
      ≡ finding (culprits_of_Exhaustive e w) (unfunded e w) (cost e p)
      (λ c. pos (budget_limit e p) -ℤ pos (total_grains e w p))
  pub c3 : f.c3 ≡ finding (culprits_of_C3 e w p) [] (cost e p) (λ c. pos (paid e p c))
  pub c4 : f.c4 ≡ finding (culprits_of_C4 e w p) [] (λ c. 0) (λ c. pos (paid e p c))
  pub c5 : f.c5 ≡ finding (culprits_of_C5 e w p) (unfunded e w) (cost e p) (λ c. sum_ℤ (left e p) (supporters e c))
  pub s5 : f.s5 ≡ finding (culprits_of_S5 e w p) (unfunded e w) (cost e p) (λ c. sum_ℤ (most_of e p) (supporters e c))

none-among : (n : ℕ) → filter (λ c. false) (range_with_len 1 n) ≡ []
none-among n = filter-none (λ c. false) n 1 (λ c low high. refl)

pub are-on : (e : Instance) (w : List Bool) (p : Prices) (d : ℕ) (sums : List ProjectSums) (remaining : ℤ)
    (f : ProjectFindings) → p.denominator ≡ d → 1 ≤ d → AreSums e p sums
    → remaining ≡ pos (cost_grains e.limit d) -ℤ pos (cost_grains (total e w) d)
    → AreFoundTo (projects e) e w d remaining sums f → AreOn e w p f
are-on e w p d sums remaining f is low h same k = record {
  exhaustive =
      found-as (projects e) _ _ _ _ _ _ _ _ f.exhaustive k.exhaustive
      (ap (λ r. filter (has_room e w d r) (all_projects e)) same ∙ room-culprits e w d low)
      (record {
        bounds = λ c a b. cost-at e p d c is;
        amounts = λ c a b. (same ∙ ap (λ x. pos (cost_grains e.limit x) -ℤ pos (cost_grains (total e w) x)) (sym is));
      }) refl;
  c3 = found-as (projects e) _ _ _ _ _ _ _ _ f.c3 k.c3 (exactly-is e w p d sums is h)
      (record { bounds = λ c a b. cost-at e p d c is; amounts = λ c a b. ap pos (paid-at e p sums c h a b) })
      (none-among (projects e));
  c4 = found-as (projects e) _ _ _ _ _ _ _ _ f.c4 k.c4 (vain-is e w p sums h)
      (record { bounds = λ c a b. refl; amounts = λ c a b. ap pos (paid-at e p sums c h a b) })
      (none-among (projects e));
  c5 = found-as (projects e) _ _ _ _ _ _ _ _ f.c5 k.c5 (plain-is e w p d sums is h)
      (record { bounds = λ c a b. cost-at e p d c is; amounts = λ c a b. left-at e p sums c h a b }) refl;
  s5 = found-as (projects e) _ _ _ _ _ _ _ _ f.s5 k.s5 (stable-is e w p d sums is h)
      (record { bounds = λ c a b. cost-at e p d c is; amounts = λ c a b. offer-at e p sums c h a b }) refl;
}

pub record HasFound (e : Instance) (w : List Bool) (p : Prices) (f : Findings) : Type 0 where
  pub grains_per_unit : f.grains_per_unit ≡ 10 ^ 6 * p.denominator
  pub total : f.total ≡ total_grains e w p
  pub limit : f.limit ≡ budget_limit e p
  pub voter_budget : f.voter_budget ≡ beta p
  pub budgets : f.budgets ≡ voters e * beta p
  pub c1 : f.c1 ≡ payment_finding (culprits_of_C1 e p)
  pub c2 : f.c2 ≡ finding (culprits_of_C2 e p) (all_voters e) (λ i. beta p) (λ i. pos (spent e p i))
  pub on : AreOn e w p (found f.exhaustive f.c3 f.c4 f.c5 f.s5)

pub are-findings : (e : Instance) (w : List Bool) (p : Prices) (f : Findings) → HasFound e w p f → f ≡ findings e w p
are-findings e w p f h = grind arith
