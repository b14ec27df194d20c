-- A number by its parts, and by the tests.
use Rattle.std.proofs.Common.{◌≡◌, ◌∙◌, ◌+◌, ◌++◌, ℕ, List, [], ◌∷◌, refl, sym, subst, arith, true, false, length, get_or, inl, inr}
use Rattle.std.proofs.Math.Seq.{take-append_seam, take-length, drop-append-add}
use Rattle.std.proofs.lemmas.Bool.{and_parts, cases_lt, lt-ltb, or_right}
use Rattle.std.proofs.lemmas.Bool.Decides.{nat_tests}
use Rattle.std.proofs.lemmas.List.{drop_all, take_all}
use Rattle.std.proofs.lemmas.List.Folds.{list_any-append}
use Rattle.std.proofs.lemmas.List.Sums.{passes_at_first, split_at_first}
use Rattle.std.specs.Char.{is_ascii_digit}
use Rattle.std.specs.List.{after_first, before_first, list_any, position_or_len}
use Rattle.std.specs.Prelude.{◌||◌, not}
use Rattle.std.specs.Str.{all_ascii_digits}
use Rattle.pb_money.specs.Digits.{are_digits}
use Rattle.pb_money.specs.Money.{Marked, NumberText, Plain, is_mark, is_number}
use Rattle.pb_money.proofs.Marks.{marked, number-alone}

no-mark : (b : ℕ) → is_ascii_digit b ≡ true → is_mark b ≡ false
no-mark b h = grind (arith, nat_tests)

-- the mark stands behind all the digits in front of it
place-plain : (whole : List ℕ) → all_ascii_digits whole ≡ true → position_or_len is_mark whole ≡ length whole
place-plain [] h = refl
place-plain (b ∷ bs) h =
    let parts = and_parts (is_ascii_digit b) (all_ascii_digits bs) h in
    rw (no-mark b parts.0, place-plain bs parts.1) (omega arith)

place-marked : (whole : List ℕ) (mark : ℕ) (behind : List ℕ) → all_ascii_digits whole ≡ true → is_mark mark ≡ true
    → position_or_len is_mark (whole ++ mark ∷ behind) ≡ length whole
place-marked [] mark behind h m = rw m refl
place-marked (b ∷ bs) mark behind h m =
    let parts = and_parts (is_ascii_digit b) (all_ascii_digits bs) h in
    rw (no-mark b parts.0, place-marked bs mark behind parts.1 m) (omega arith)

-- what the tests say of a number with these parts
pub record Tested (text whole behind : List ℕ) : Type 0 where
  pub number : is_number text ≡ true
  pub before : before_first is_mark text ≡ whole
  pub after : after_first is_mark text ≡ behind

tested-plain : (whole : List ℕ) → are_digits whole ≡ true → Tested whole whole []
tested-plain whole h = grind (arith, and_parts, place-plain, number-alone, take-length, drop_all)

tested-marked : (whole : List ℕ) (mark : ℕ) (behind : List ℕ) → are_digits whole ≡ true → is_mark mark ≡ true
    → are_digits behind ≡ true → Tested (whole ++ mark ∷ behind) whole behind
tested-marked whole mark behind h m k =
    grind (arith, and_parts, place-marked, take-append_seam, drop-append-add, list_any-append, or_right)

pub tested : (text whole behind : List ℕ) → NumberText text whole behind → Tested text whole behind
tested text whole behind (Plain ds h) = tested-plain ds h
tested text whole behind (Marked ds m bs h k l) = tested-marked ds m bs h k l

pub number-parts : (text : List ℕ) → is_number text ≡ true
    → NumberText text (before_first is_mark text) (after_first is_mark text)
number-parts text h =
    let whole = before_first is_mark text in
    let behind = after_first is_mark text in
    let place = position_or_len is_mark text in
    let both = and_parts (are_digits whole) (not (list_any is_mark text) || are_digits behind) h in
    elim (cases_lt place (length text)) [
      | inl less ↦
          let some = marked is_mark text ∙ lt-ltb place (length text) less in
          subst (λ t. NumberText t whole behind) (sym (split_at_first is_mark text 0 less))
          (Marked whole (get_or text place 0) behind both.0 (passes_at_first is_mark text 0 less) (rw some at both.1))
      | inr all ↦
          let cut = take_all place text all in
          let none = drop_all (place + 1) text (omega arith) in
          rw (cut, none) (Plain text (rw cut at both.0))
    ]
