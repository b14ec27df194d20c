-- The code's own finding while places are looked at one by one. No claim on a certificate rests on this.
use Rattle.std.specs.Prelude.{◌≡◌, ◌≤◌, ◌≤ℤ◌, ◌+◌, ◌||◌, if◌then◌else◌, ℕ, ℤ, int_lt, Bool, true, List, filter, length, slice_get, Option, Some, None}
use Rattle.std.specs.List.{range_with_len}
use Rattle.pb_price.specs.Findings.{comparison, excess}
use Rattle.pb_price.specs.declared.Comparison.{Comparison}
use Rattle.pb_price.specs.declared.Finding.{Finding}

-- the first number that passes a test, where one before is known or not
abbrev pub first_number : Option ℕ → Bool → ℕ → Option ℕ
first_number (Some i) b j = Some i
first_number None b j = if b then Some j else None

-- whether an amount comes closer than the one that is known, if there is one
abbrev pub is_closer : Comparison → Option Comparison → Bool
is_closer m None = true
is_closer m (Some known) = int_lt (excess known) (excess m)

-- what is shown with one more place
abbrev pub shown_with : Option ℕ → Bool → Comparison → Option Comparison → Option Comparison
shown_with (Some x) fails m shown = shown
shown_with None fails m shown = if fails || is_closer m shown then Some m else shown

-- one more place is looked at, where the condition is false or not
abbrev pub noted : Bool → Comparison → Finding → Finding
noted fails m f = record {
  first = first_number f.first fails m.at;
  count = if fails then f.count + 1 else f.count;
  shown = shown_with f.first fails m f.shown;
}

-- the numbers from 1 to n that pass a test
abbrev pub among : ℕ → (ℕ → Bool) → ℕ → Type 0
among n r x = (1 ≤ x) × (x ≤ n) × (r x ≡ true)

-- x is the first of the candidates at which f is greatest
pub record IsFirstGreatest (candidate : ℕ → Type 0) (f : ℕ → ℤ) (x : ℕ) : Type 0 where
  pub one : candidate x
  pub greatest : (y : ℕ) → candidate y → f y ≤ℤ f x
  pub lowest : (y : ℕ) → candidate y → f y ≡ f x → x ≤ y

-- what is shown: the sums at the first culprit, and where there is none at the first candidate that comes closest, if
-- there is a candidate
abbrev pub IsShown : Option ℕ → (ℕ → Type 0) → (ℕ → ℕ) → (ℕ → ℤ) → Option Comparison → Type 0
IsShown (Some x) candidate bound amount shown = shown ≡ Some (comparison bound amount x)
IsShown None candidate bound amount None = (x : ℕ) → candidate x → ⊥
IsShown None candidate bound amount (Some m) = (m ≡ comparison bound amount m.at)
    × IsFirstGreatest candidate (λ x. excess (comparison bound amount x)) m.at

-- the finding by these culprits, where r tells the candidates from 1 to n
pub record IsFindingBy (culprits : List ℕ) (n : ℕ) (r : ℕ → Bool) (bound : ℕ → ℕ) (amount : ℕ → ℤ) (f : Finding) : Type
    0 where
  pub first : f.first ≡ slice_get culprits 0
  pub count : f.count ≡ length culprits
  pub shown : IsShown f.first (among n r) bound amount f.shown

-- the finding on the places from 1 to n, where q tells the culprits and r the candidates
abbrev pub IsFindingTo : ℕ → (ℕ → Bool) → (ℕ → Bool) → (ℕ → ℕ) → (ℕ → ℤ) → Finding → Type 0
IsFindingTo n q r bound amount f = IsFindingBy (filter q (range_with_len 1 n)) n r bound amount f
