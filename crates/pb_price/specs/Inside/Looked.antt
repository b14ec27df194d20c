-- What the code's own findings are while the projects are looked at one by one. No claim on a certificate rests on
-- this.
use Rattle.std.specs.Prelude.{◌≤◌, ◌^◌, ◌==◌, ◌&&◌, not, if◌then◌else◌, ℕ, ℤ, pos, int_le, int_lt, Bool, false, true, List, IfSome}
use Rattle.pb_money.specs.Grains.{cost_grains}
use Rattle.pb_election.specs.Instance.{Instance, cost_of}
use Rattle.pb_election.specs.Outcome.{has}
use Rattle.pb_price.specs.Inside.Noted.{IsFindingTo, noted}
use Rattle.pb_price.specs.Inside.Tallies.{IsWithin, has_more, in_vain, not_exactly, sums_of}
use Rattle.pb_price.specs.declared.Comparison.{Comparison}
use Rattle.pb_price.specs.declared.Finding.{Finding}
use Rattle.pb_price.specs.declared.explaining.ProjectFindings.{ProjectFindings}
use Rattle.pb_price.specs.declared.tally.ProjectSums.{ProjectSums}

-- sums whose difference fits
pub record IsSmallComparison (m : Comparison) : Type 0 where
  pub bound : m.bound ≤ 10 ^ 34
  pub amount : IsWithin (10 ^ 38) m.amount

-- no more culprits than n, and small sums
pub record IsSmallFinding (n : ℕ) (f : Finding) : Type 0 where
  pub count : f.count ≤ n
  pub shown : IfSome f.shown IsSmallComparison

pub record AreSmallFindings (n : ℕ) (f : ProjectFindings) : Type 0 where
  pub exhaustive : IsSmallFinding n f.exhaustive
  pub c3 : IsSmallFinding n f.c3
  pub c4 : IsSmallFinding n f.c4
  pub c5 : IsSmallFinding n f.c5
  pub s5 : IsSmallFinding n f.s5

abbrev pub compared : ℕ → ℕ → ℤ → Comparison
compared x bound amount = record { at = x; bound = bound; amount = amount }

-- a funded project is looked at, by its cost and what is paid for it
abbrev pub with_funded : ℕ → ℕ → ℕ → ProjectFindings → ProjectFindings
with_funded c cost paid f =
    record f { c3 = if paid == cost then f.c3 else noted true (compared c cost (pos paid)) f.c3 }

-- an unfunded project is looked at, by its cost, what remains of the limit, and its sums
abbrev pub with_unfunded : ℕ → ℕ → ℤ → ProjectSums → ProjectFindings → ProjectFindings
with_unfunded c cost remaining s f = record {
  exhaustive = noted (int_le (pos cost) remaining) (compared c cost remaining) f.exhaustive;
  c3 = f.c3;
  c4 = if s.paid == 0 then f.c4 else noted true (compared c 0 (pos s.paid)) f.c4;
  c5 = noted (int_lt (pos cost) s.left) (compared c cost s.left) f.c5;
  s5 = noted (int_lt (pos cost) s.offer) (compared c cost s.offer) f.s5;
}

-- an unfunded project that costs no more than what remains
abbrev pub has_room : Instance → List Bool → ℕ → ℤ → ℕ → Bool
has_room e w d remaining c = not (has w c) && int_le (pos (cost_grains (cost_of e c) d)) remaining

-- the findings on the projects from 1 to n, as the sums tell them
pub record AreFoundTo (n : ℕ) (e : Instance) (w : List Bool) (d : ℕ) (remaining : ℤ) (sums : List ProjectSums)
    (f : ProjectFindings) : Type 0 where
  pub exhaustive : IsFindingTo n (has_room e w d remaining) (λ c. not (has w c)) (λ c. cost_grains (cost_of e c) d)
      (λ c. remaining) f.exhaustive
  pub c3 : IsFindingTo n (not_exactly e w d sums) (λ c. false) (λ c. cost_grains (cost_of e c) d)
      (λ c. pos (sums_of sums c).paid) f.c3
  pub c4 : IsFindingTo n (in_vain w sums) (λ c. false) (λ c. 0) (λ c. pos (sums_of sums c).paid) f.c4
  pub c5 : IsFindingTo n (has_more e w d false sums) (λ c. not (has w c)) (λ c. cost_grains (cost_of e c) d)
      (λ c. (sums_of sums c).left) f.c5
  pub s5 : IsFindingTo n (has_more e w d true sums) (λ c. not (has w c)) (λ c. cost_grains (cost_of e c) d)
      (λ c. (sums_of sums c).offer) f.s5
