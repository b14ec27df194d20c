-- Euclid's algorithm gives the largest number that divides both.
use Rattle.std.proofs.Common.{◌≡◌, ℕ, ◌<◌, ◌≤◌, ◌%◌, refl, inl, inr, arith}
use Rattle.std.specs.Prelude.{◌==◌, ◌&&◌, if◌then◌else◌}
use Rattle.std.proofs.lemmas.Bool.{cases_eq, eq-eqb, ne_eqb}
use Rattle.std.specs.Int.{IsGcd}
use Rattle.std.proofs.lemmas.Nat.Gcd.{dvd_of_mod-eq-zero, le_from_IsGcd, le_of_dvd, mod-eq-zero_of_dvd}
use Rattle.pb_cohesion.proofs.Sets.{largest-at, largest-reached}
use Rattle.pb_explain.specs.Amounts.{greatest_common_divisor}

-- k where it divides both, and else 0
abbrev common : ℕ → ℕ → ℕ → ℕ
common a b k = if (a % k == 0) && (b % k == 0) then k else 0

common-is : (a b k : ℕ) → a % k ≡ 0 → b % k ≡ 0 → common a b k ≡ k
common-is a b k of_a of_b = grind arith

common-below : (a b g k : ℕ) → 0 < g → IsGcd a b g → common a b k ≤ g
common-below a b g k positive is = elim (cases_eq (a % k) 0) [
  | inl of_a ↦ elim (cases_eq (b % k) 0) [
    | inl of_b ↦
        let small : k ≤ g = le_from_IsGcd a b g k is positive (dvd_of_mod-eq-zero k of_a) (dvd_of_mod-eq-zero k of_b) in
        let whole : common a b k ≡ k = common-is a b k of_a of_b in
        omega arith
    | inr other ↦ let none : common a b k ≡ 0 = rw (ne_eqb (b % k) 0 other, eq-eqb (a % k) 0 of_a) refl in omega arith
  ]
  | inr other ↦ let none : common a b k ≡ 0 = rw (ne_eqb (a % k) 0 other) refl in omega arith
]

pub gcd-is : (a b g : ℕ) → 0 < b → 0 < g → IsGcd a b g → g ≡ greatest_common_divisor a b
unfolding greatest_common_divisor
gcd-is a b g some positive is =
    let small : g ≤ b = le_of_dvd some is.1 in
    let own : common a b g ≡ g = common-is a b g (mod-eq-zero_of_dvd g is.0) (mod-eq-zero_of_dvd g is.1) in
    let low : common a b g ≤ greatest_common_divisor a b = largest-at (common a b) b 1 g positive (omega arith) in
    elim (largest-reached (common a b) b 1) [
      | inl none ↦ let zero : greatest_common_divisor a b ≡ 0 = none in omega arith
      | inr some ↦
          let top : common a b some.0 ≡ greatest_common_divisor a b = some.3 in
          let high : common a b some.0 ≤ g = common-below a b g some.0 positive is in
          omega arith
    ]
