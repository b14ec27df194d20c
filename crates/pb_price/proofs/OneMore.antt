-- A finding with one more place that was looked at.
use Rattle.std.proofs.Common.{◌≡◌, ℕ, ◌+◌, Bool, true, false, cond, length, refl, sym, ◌∙◌, ap, arith}
use Rattle.std.specs.Prelude.{ℤ, Option, Some, None, ◌||◌, filter, int_lt}
use Rattle.std.specs.List.{range_with_len}
use Rattle.std.proofs.lemmas.List.{length-append}
use Rattle.std.proofs.lemmas.List.Elements.{filter-append}
use Rattle.pb_cohesion.proofs.Firsts.{range-next}
use Rattle.pb_price.specs.Findings.{comparison, excess}
use Rattle.pb_price.specs.Inside.Noted.{IsFindingTo, IsFirstGreatest, IsShown, among, first_number, noted, shown_with}
use Rattle.pb_price.specs.Inside.Looked.{compared}
use Rattle.pb_price.specs.declared.Comparison.{Comparison}
use Rattle.pb_price.specs.declared.Finding.{Finding}
use Rattle.pb_price.proofs.Firsts.{number-next}

-- nothing was looked at
abbrev pub nothing_found : Finding
nothing_found = record { first = None; count = 0; shown = None }

pub none-found : (q r : ℕ → Bool) (bound : ℕ → ℕ) (amount : ℕ → ℤ) → IsFindingTo 0 q r bound amount nothing_found
none-found q r bound amount = record { first = refl; count = refl; shown = λ x a. omega (arith, a.0, a.1) }

-- one more place, which is looked at only if it is a culprit or a candidate
abbrev pub stepped : Bool → Bool → Comparison → Finding → Finding
stepped fails candidate m f = cond (fails || candidate) (noted fails m f) f

-- how many there are
count-next : (q : ℕ → Bool) (n : ℕ) (b : Bool) → q (n + 1) ≡ b
    → length (filter q (range_with_len 1 (n + 1)))
    ≡ cond b (length (filter q (range_with_len 1 n)) + 1) (length (filter q (range_with_len 1 n)))
count-next q n b is = grind (arith, range-next, filter-append, length-append)

-- the same that was closest, and one that comes closer
keeps : (r : ℕ → Bool) (f : ℕ → ℤ) (n x : ℕ) → IsFirstGreatest (among n r) f x → int_lt (f x) (f (n + 1)) ≡ false
    → IsFirstGreatest (among (n + 1) r) f x
keeps r f n x h is_none = grind arith

takes : (r : ℕ → Bool) (f : ℕ → ℤ) (n x : ℕ) → r (n + 1) ≡ true → IsFirstGreatest (among n r) f x
    → int_lt (f x) (f (n + 1)) ≡ true → IsFirstGreatest (among (n + 1) r) f (n + 1)
takes r f n x is_one h above = grind arith

starts : (r : ℕ → Bool) (f : ℕ → ℤ) (n : ℕ) → r (n + 1) ≡ true → ((y : ℕ) → among n r y → ⊥)
    → IsFirstGreatest (among (n + 1) r) f (n + 1)
starts r f n is_one none = grind arith

-- no candidate, and no culprit
passes : (r : ℕ → Bool) (bound : ℕ → ℕ) (amount : ℕ → ℤ) (n : ℕ) (o : Option ℕ) (s : Option Comparison)
    → r (n + 1) ≡ false → IsShown o (among n r) bound amount s → IsShown o (among (n + 1) r) bound amount s
passes r bound amount n o s is_none h = grind arith

-- a candidate that is no culprit
tries : (r : ℕ → Bool) (bound : ℕ → ℕ) (amount : ℕ → ℤ) (n : ℕ) (o : Option ℕ) (s : Option Comparison)
    → r (n + 1) ≡ true → IsShown o (among n r) bound amount s
    → IsShown o (among (n + 1) r) bound amount (shown_with o false (comparison bound amount (n + 1)) s)
tries r bound amount n (Some x) s is_one h = h
tries r bound amount n None None is_one h = (refl, starts r (λ x. excess (comparison bound amount x)) n is_one h)
tries r bound amount n None (Some m) is_one h = go (int_lt (excess m) (excess (comparison bound amount (n + 1)))) refl
  where
    known : excess m ≡ excess (comparison bound amount m.at)
    known = ap excess h.0

    go : (b : Bool) → int_lt (excess m) (excess (comparison bound amount (n + 1))) ≡ b
        → IsShown None (among (n + 1) r) bound amount (cond b (Some (comparison bound amount (n + 1))) (Some m))
    go true e = (
      refl,
      takes r (λ x. excess (comparison bound amount x)) n m.at is_one h.1
          (ap (λ z. int_lt z (excess (comparison bound amount (n + 1)))) (sym known) ∙ e),
    )
    go false e = (
      h.0,
      keeps r (λ x. excess (comparison bound amount x)) n m.at h.1
          (ap (λ z. int_lt z (excess (comparison bound amount (n + 1)))) (sym known) ∙ e),
    )

-- a culprit
fails-here : (r : ℕ → Bool) (bound : ℕ → ℕ) (amount : ℕ → ℤ) (n : ℕ) (o : Option ℕ) (s : Option Comparison)
    → IsShown o (among n r) bound amount s
    → IsShown (first_number o true (n + 1)) (among (n + 1) r) bound amount
    (shown_with o true (comparison bound amount (n + 1)) s)
fails-here r bound amount n (Some x) s h = h
fails-here r bound amount n None s h = refl

pub finding-next : (q r : ℕ → Bool) (bound : ℕ → ℕ) (amount : ℕ → ℤ) (n : ℕ) (f : Finding)
    → IsFindingTo n q r bound amount f
    → (b c : Bool) → q (n + 1) ≡ b → r (n + 1) ≡ c
    → IsFindingTo (n + 1) q r bound amount (stepped b c (comparison bound amount (n + 1)) f)
finding-next q r bound amount n f h b c is candidate =
    grind (arith, number-next, count-next, fails-here, tries, passes)

-- one more candidate
pub tried : (q r : ℕ → Bool) (bound : ℕ → ℕ) (amount : ℕ → ℤ) (n : ℕ) (f : Finding) (b : Bool)
    → IsFindingTo n q r bound amount f → q (n + 1) ≡ b → r (n + 1) ≡ true
    → IsFindingTo (n + 1) q r bound amount (noted b (compared (n + 1) (bound (n + 1)) (amount (n + 1))) f)
tried q r bound amount n f true h is is_one = finding-next q r bound amount n f h true true is is_one
tried q r bound amount n f false h is is_one = finding-next q r bound amount n f h false true is is_one
