-- What the findings tell is so by the definitions.
use Rattle.std.proofs.Common.{◌≡◌, ℕ, ◌+◌, ◌*◌, ◌≤◌, ◌↔◌, Bool, true, false, cond, List, [], ◌∷◌, ◌++◌, length, refl, sym, ap, ◌∙◌, inl, inr, arith}
use Rattle.std.specs.Prelude.{◌==◌, IsFalse, IsTrue, nat_lt, not, slice_get}
use Rattle.std.proofs.lemmas.Bool.{cases_lt, eqb-true, le-leb, le-ltb, leb-true, lt-ltb, ltb-true}
use Rattle.std.proofs.lemmas.Nat.{mul-le}
use Rattle.std.proofs.lemmas.Option.{slice_get-map}
use Rattle.std.specs.Option.{option_or}
use Rattle.pb_election.specs.Instance.{Instance}
use Rattle.pb_certificate.specs.Prices.{Prices}
use Rattle.pb_cohesion.specs.Conditions.{culprits_of_C1, culprits_of_C2, culprits_of_C3, culprits_of_C4, culprits_of_C5, culprits_of_Exhaustive, culprits_of_S5}
use Rattle.pb_cohesion.specs.Outcome.{total}
use Rattle.pb_cohesion.proofs.Culprits.{C1-iff, C2-iff, C3-iff, C4-iff, C5-iff, Exhaustive-iff, S5-iff}
use Rattle.pb_cohesion.proofs.Verdicts.{through}
use Rattle.pb_price.specs.Condition.{Holds, found, holds, is_asked}
use Rattle.pb_price.specs.Findings.{findings}
use Rattle.pb_price.specs.First.{First}
use Rattle.pb_price.specs.Supports.{Supports}
use Rattle.pb_price.specs.Told.{TellWhatHolds, first_told}
use Rattle.pb_price.specs.declared.condition.Condition.{Condition}
use Rattle.pb_price.specs.declared.condition.Condition.TheVariants as condition
use Rattle.pb_cohesion.specs.declared.Mode.{Mode}

-- a condition holds where its culprits are none
none-iff : {A : Type 0} (xs : List A) → IsTrue (length xs == 0) ↔ (xs ≡ [])
none-iff [] = (λ h. refl, λ h. refl)
none-iff (x ∷ xs) = (λ h. absurd (omega (arith, eqb-true (length (x ∷ xs)) 0 h)), λ h. cc)

-- in grains and in millionths
within : (t l d : ℕ) → 1 ≤ d → t * d ≤ l * d → t ≤ l
within t l d low h = grind arith

over-is : (t l d : ℕ) → 1 ≤ d → nat_lt (l * d) (t * d) ≡ nat_lt l t
over-is t l d low = elim (cases_lt l t) [
  | inl more ↦ let most : (l + 1) * d ≤ t * d = mul-le (l + 1) d t d (omega arith) (omega arith) in
      lt-ltb (l * d) (t * d) (omega arith) ∙ sym (lt-ltb l t more)
  | inr less ↦ le-ltb (l * d) (t * d) (mul-le t d l d less (omega arith)) ∙ sym (le-ltb l t less)
]

tells : (e : Instance) (w : List Bool) (p : Prices) → 1 ≤ p.denominator → (c : Condition)
    → IsTrue (holds (found (findings e w p) c)) ↔ Holds c e w p
tells e w p low condition.Feasible = (
  λ h. within (total e w) e.limit p.denominator low (leb-true _ _ h),
  λ h. le-leb _ _ (mul-le (total e w) p.denominator e.limit p.denominator h (omega arith)),
)
tells e w p low condition.Exhaustive = through (none-iff (culprits_of_Exhaustive e w)) (Exhaustive-iff e w)
tells e w p low condition.Cover = (λ h. ltb-true _ _ h, λ h. lt-ltb _ _ h)
tells e w p low condition.C1 = through (none-iff (culprits_of_C1 e p)) (C1-iff e p)
tells e w p low condition.C2 = through (none-iff (culprits_of_C2 e p)) (C2-iff e p)
tells e w p low condition.C3 = through (none-iff (culprits_of_C3 e w p)) (C3-iff e w p)
tells e w p low condition.C4 = through (none-iff (culprits_of_C4 e w p)) (C4-iff e w p)
tells e w p low condition.C5 = through (none-iff (culprits_of_C5 e w p)) (C5-iff e w p)
tells e w p low condition.S5 = through (none-iff (culprits_of_S5 e w p)) (S5-iff e w p)

pub tell-what-holds : (e : Instance) (w : List Bool) (p : Prices) → 1 ≤ p.denominator
    → TellWhatHolds e w p (findings e w p)
tell-what-holds e w p low = record { each = tells e w p low }

untrue : (b : Bool) → IsTrue (not b) → IsFalse b
untrue true h = sym h
untrue false h = refl

true-not : (b : Bool) → IsFalse b → IsTrue (not b)
true-not b h = ap not h

-- the prices support the outcome where each condition that the mode asks for holds
holds-asked : (m : Mode) (e : Instance) (w : List Bool) (p : Prices) → Supports m e w p → (c : Condition)
    → IsTrue (is_asked m c) → Holds c e w p
holds-asked m e w p s condition.Feasible h = s.feasible
holds-asked m e w p s condition.Exhaustive h = s.exhausts h
holds-asked m e w p s condition.Cover h = s.covers h
holds-asked m e w p s condition.C1 h = s.approved
holds-asked m e w p s condition.C2 h = s.within_budget
holds-asked m e w p s condition.C3 h = s.paid_for
holds-asked m e w p s condition.C4 h = s.none_wasted
holds-asked m e w p s condition.C5 h = s.plain (untrue m.stable h)
holds-asked m e w p s condition.S5 h = s.stable_form h

all-asked : (m : Mode) (e : Instance) (w : List Bool) (p : Prices)
    → ((c : Condition) → IsTrue (is_asked m c) → Holds c e w p) → Supports m e w p
all-asked m e w p each = record {
  feasible = each condition.Feasible refl;
  exhausts = each condition.Exhaustive;
  covers = each condition.Cover;
  approved = each condition.C1 refl;
  within_budget = each condition.C2 refl;
  paid_for = each condition.C3 refl;
  none_wasted = each condition.C4 refl;
  plain = λ h. each condition.C5 (true-not m.stable h);
  stable_form = each condition.S5;
}

pub supports-iff : (m : Mode) (e : Instance) (w : List Bool) (p : Prices)
    → Supports m e w p ↔ ((c : Condition) → IsTrue (is_asked m c) → Holds c e w p)
supports-iff m e w p = (holds-asked m e w p, all-asked m e w p)

-- the first element of two lists, and of one of two
first-append : {A : Type 0} (xs ys : List A) → slice_get (xs ++ ys) 0 ≡ option_or (slice_get xs 0) (slice_get ys 0)
first-append [] ys = refl
first-append (x ∷ xs) ys = refl

first-choice : {A : Type 0} (b : Bool) (xs ys : List A)
    → slice_get (cond b xs ys) 0 ≡ cond b (slice_get xs 0) (slice_get ys 0)
first-choice true xs ys = refl
first-choice false xs ys = refl

pub tell-first : (m : Mode) (e : Instance) (w : List Bool) (p : Prices) → 1 ≤ p.denominator
    → first_told m (findings e w p) ≡ First m e w p
tell-first m e w p low = grind (arith, first-append, first-choice, slice_get-map, over-is)
