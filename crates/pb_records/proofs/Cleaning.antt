-- A field that was cleaned stays as it is, and stays UTF-8.
use Rattle.std.specs.Cmp.{first_so}
use Rattle.std.proofs.Common.{◌≡◌, ◌≤◌, ◌<◌, ℕ, suc, [], ◌∷◌, refl, arith, inl, inr, Bool, true, false, length, take, get_or}
use Rattle.std.specs.Prelude.{◌&&◌, nat_lt}
use Rattle.std.proofs.lemmas.Bool.Decides.{nat_tests}
use Rattle.std.specs.Str.{IsUtf8, is_utf8}
use Rattle.std.proofs.lemmas.Bool.{cases_Bool}
use Rattle.std.proofs.lemmas.List.{take_all}
use Rattle.std.proofs.lemmas.Str.{IsCharBoundary-after_ascii, IsCharBoundary-before_ascii, IsUtf8-drop, IsUtf8-from_is_utf8, IsUtf8-take, is_utf8-from_IsUtf8}
use Rattle.pb_money.specs.Digits.{drop_back, drop_front, is_empty}
use Rattle.pb_records.specs.Records.{Field}
use Rattle.pb_records.specs.Cells.{clean, is_space}
use Rattle.pb_records.proofs.CellLemmas.{space-ascii}

pub clean-nil : clean [] ≡ []
unfolding drop_back drop_front
clean-nil = refl

StartsPlain : Field → Type 0
StartsPlain [] = Unit {0}
StartsPlain (b ∷ bs) = is_space b ≡ false

front-starts : (f : Field) → StartsPlain (drop_front is_space f)
unfolding StartsPlain drop_front
front-starts [] = tt
front-starts (b ∷ bs) = grind (arith, front-starts bs)

front-same : (f : Field) → StartsPlain f → drop_front is_space f ≡ f
unfolding StartsPlain drop_front
front-same [] h = refl
front-same (b ∷ bs) h = rw h refl

back-starts : (f : Field) → StartsPlain f → StartsPlain (drop_back is_space f)
unfolding StartsPlain drop_back
back-starts [] h = tt
back-starts (b ∷ bs) h = rw h h

back-twice : (f : Field) → drop_back is_space (drop_back is_space f) ≡ drop_back is_space f
unfolding drop_back
back-twice [] = refl
back-twice (b ∷ bs) = grind (arith, back-twice bs)

pub clean-clean : (f : Field) → clean (clean f) ≡ clean f
clean-clean f = grind (arith, front-same, back-starts, front-starts, back-twice)

-- a field is blank where nothing is left of it at the front
back-empty : (f : Field) → StartsPlain f → is_empty (drop_back is_space f) ≡ is_empty f
unfolding StartsPlain drop_back
back-empty [] h = refl
back-empty (b ∷ bs) h = rw h refl

pub empty-by-front : (f : Field) → is_empty (clean f) ≡ is_empty (drop_front is_space f)
empty-by-front f = back-empty (drop_front is_space f) (front-starts f)

-- UTF-8.

front-utf8 : (f : Field) → IsUtf8 f → IsUtf8 (drop_front is_space f)
unfolding drop_front
front-utf8 [] u = u
front-utf8 (b ∷ bs) u =
    elim (cases_Bool (is_space b)) [
      | inl e ↦
          let rest : IsUtf8 bs =
          IsUtf8-drop (b ∷ bs) 1 u (IsCharBoundary-after_ascii (b ∷ bs) 0 u (omega arith) (space-ascii b e)) in
          rw e (front-utf8 bs rest)
      | inr e ↦ rw e u
    ]

-- what is dropped at the end begins at a space, if it is not empty
record Kept (f : Field) : Type 0 where
  count : ℕ
  within : count ≤ length f
  is : drop_back is_space f ≡ take count f
  next : count < length f → is_space (get_or f count 0) ≡ true

kept : (f : Field) → Kept f
unfolding drop_back
kept [] = record { count = 0; within = omega arith; is = refl; next = λ h. absurd (omega arith) }
kept (b ∷ bs) = by (is_space b && is_empty (drop_back is_space bs)) refl (kept bs)
  where
    by : (t : Bool) → (is_space b && is_empty (drop_back is_space bs)) ≡ t → Kept bs → Kept (b ∷ bs)
    by true e k =
        record {
          count = 0;
          within = omega arith;
          is = rw e refl;
          next = λ h. first_so (is_space b) (is_empty (drop_back is_space bs)) e;
        }
    by false e k =
        record {
          count = suc k.count;
          within = omega (arith, k.within);
          is = rw (e, k.is) refl;
          next = λ h. k.next (omega arith);
        }

back-utf8 : (f : Field) → IsUtf8 f → IsUtf8 (drop_back is_space f)
back-utf8 f u = by (kept f)
  where
    by : Kept f → IsUtf8 (drop_back is_space f)
    by k = elim (cases_Bool (nat_lt k.count (length f))) [
      | inl is_less ↦
          let less : k.count < length f = grind (arith, nat_tests) in
          rw k.is
          (IsUtf8-take f k.count u
          (IsCharBoundary-before_ascii f k.count less (space-ascii (get_or f k.count 0) (k.next less))))
      | inr is_not ↦
          let all : length f ≤ k.count = grind (arith, nat_tests) in
          let whole : take k.count f ≡ f = take_all k.count f all in
          rw (k.is, whole) u
    ]

pub is_utf8-clean : (f : Field) → is_utf8 f ≡ true → is_utf8 (clean f) ≡ true
is_utf8-clean f u =
    is_utf8-from_IsUtf8 (clean f) (back-utf8 (drop_front is_space f) (front-utf8 f (IsUtf8-from_is_utf8 f u)))
