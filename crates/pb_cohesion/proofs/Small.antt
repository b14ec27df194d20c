-- What a share has to come to is small.
use Rattle.std.proofs.Common.{◌≡◌, ℕ, zero, suc, ◌+◌, ◌-◌, ◌*◌, ◌≤◌, Bool, List, [], ◌∷◌, ◌∙◌, ap, arith}
use Rattle.std.specs.Prelude.{◌&&◌, slice_index, sum_by}
use Rattle.std.specs.List.{AllByRecursion}
use Rattle.std.proofs.lemmas.List.FromFn.{length-range_with_len}
use Rattle.std.proofs.Math.Nat.{mul-le-mul_left, mul-le-mul_right}
use Rattle.pb_money.specs.Money.{most_money}
use Rattle.pb_records.proofs.Each.{all-every}
use Rattle.pb_election.specs.Instance.{Instance, all_projects, approves, cost_of, most_projects, projects}
use Rattle.pb_election.specs.Outcome.{has}
use Rattle.pb_election.specs.Text.{IsElection}
use Rattle.pb_certificate.specs.declared.violations.measure.Measure.{Measure}
use Rattle.pb_certificate.specs.declared.violations.measure.Measure.TheVariants.{ByCount, ByCost}
use Rattle.pb_cohesion.specs.Closest.{most_need}
use Rattle.pb_cohesion.specs.Satisfactions.{worth_by}
use Rattle.pb_cohesion.specs.Short.{got, need}
use Rattle.pb_cohesion.proofs.Sums.{part-le, sum-const, sum-le}

at-small : (n : ℕ) (xs : List ℕ) (k : ℕ) → AllByRecursion (λ x. x ≤ n) xs → slice_index xs k ≤ n
at-small n [] k each = omega arith
at-small n (x ∷ xs) zero each = each.0
at-small n (x ∷ xs) (suc k) each = at-small n xs k each.1

cost-small : (e : Instance) (c : ℕ) → IsElection e → cost_of e c ≤ most_money
cost-small e c sound = at-small most_money e.costs (c - 1) sound.costs

-- what a voter got is at most so much for each project
got-le : (m : Measure) (e : Instance) (w : List Bool) (i n : ℕ) → ((j : ℕ) → worth_by m e j ≤ n)
    → got m e w i ≤ projects e * n
got-le m e w i n each =
    let part : got m e w i ≤ sum_by (worth_by m e) (all_projects e) =
    part-le (worth_by m e) (λ j. approves e i j && has w j) (all_projects e) in
    let all : sum_by (worth_by m e) (all_projects e) ≤ sum_by (λ j. n) (all_projects e) =
    sum-le (worth_by m e) (λ j. n) (all_projects e) (all-every (λ j. worth_by m e j ≤ n) (all_projects e) each) in
    let same : sum_by (λ j. n) (all_projects e) ≡ projects e * n =
    sum-const n (all_projects e) ∙ ap (λ k. k * n) (length-range_with_len 1 (projects e)) in
    omega (arith, part, all, same)

pub need-small : (m : Measure) (e : Instance) (w : List Bool) (i c : ℕ) → IsElection e → need m e c (got m e w i) ≤ most_need
need-small ByCost e w i c sound =
    let got_is : got ByCost e w i ≤ projects e * most_money =
    got-le ByCost e w i most_money (λ j. cost-small e j sound) in
    let few : projects e * most_money ≤ most_projects * most_money =
    mul-le-mul_right most_money sound.few_projects in
    let cost_is : cost_of e c ≤ most_money = cost-small e c sound in
    omega (arith, got_is, few, cost_is)
need-small ByCount e w i c sound =
    let got_is : got ByCount e w i ≤ projects e * 1 = got-le ByCount e w i 1 (λ j. omega arith) in
    let few : projects e ≤ most_projects = sound.few_projects in
    let one : cost_of e c * (got ByCount e w i + 1) ≤ cost_of e c * (most_projects + 1) =
    mul-le-mul_left (cost_of e c) (more (got ByCount e w i) (projects e) most_projects got_is few) in
    let two : cost_of e c * (most_projects + 1) ≤ most_money * (most_projects + 1) =
    mul-le-mul_right (most_projects + 1) (cost-small e c sound) in
    omega (arith, one, two)
  where
    more : (a b k : ℕ) → a ≤ b * 1 → b ≤ k → a + 1 ≤ k + 1
    more a b k h i' = omega arith
