-- The words on cells, step by step.
use Rattle.std.proofs.Common.{◌≡◌, ◌∙◌, ◌<◌, ◌≤◌, ◌+◌, ◌-◌, ◌++◌, ℕ, [], ◌∷◌, refl, sym, ap, arith, add-one, Bool, true, false, Some, None, length, drop, take, get_or}
use Rattle.std.specs.Prelude.{◌&&◌}
use Rattle.std.specs.List.{slice_range}
use Rattle.std.proofs.lemmas.Bool.Decides.{nat_tests}
use Rattle.std.proofs.lemmas.List.{drop_all}
use Rattle.std.proofs.lemmas.Str.{IsCharBoundary-after_ascii, IsCharBoundary-before_ascii}
use Rattle.std.specs.Str.{IsCharBoundary, IsUtf8}
use Rattle.std.proofs.Math.Seq.{drop-cons, take-suc}
use Rattle.std.proofs.Math.Bool.{and-false}
use Rattle.csv.specs.Records.{field_at}
use Rattle.pb_money.specs.Digits.{drop_back, drop_front, is_empty}
use Rattle.pb_money.proofs.Fractions.{some-left}
use Rattle.pb_records.specs.Records.{Field, Rec}
use Rattle.pb_records.specs.Cells.{clean, is_blank, is_space}
use Rattle.pb_records.proofs.Csv.{all-drop, field-none}

-- a space is a byte of ASCII
pub space-ascii : (b : ℕ) → is_space b ≡ true → b < 128
space-ascii b e = grind (arith, nat_tests)

-- what is dropped at the front: the byte there goes, or all stays. The bytes are those of the text
front-dropped : (test : ℕ → Bool) (xs : Field) (i : ℕ) → i < length xs → test (get_or xs i 0) ≡ true
    → drop_front test (drop (i + 1) xs) ≡ drop_front test (drop i xs)
unfolding drop_front
front-dropped test xs i h e = rw (add-one i, drop-cons xs i 0 h, e) refl

front-kept : (test : ℕ → Bool) (xs : Field) (i : ℕ) → i < length xs → test (get_or xs i 0) ≡ false
    → drop_front test (drop i xs) ≡ drop i xs
unfolding drop_front
front-kept test xs i h e = rw (drop-cons xs i 0 h, e) refl

front-nil : (test : ℕ → Bool) (xs : Field) (i : ℕ) → length xs ≤ i → drop_front test (drop i xs) ≡ drop i xs
unfolding drop_front
front-nil test xs i h = rw (drop_all i xs h) refl

pub front-goes : (bytes text : Field) (i : ℕ) → bytes ≡ text → IsUtf8 text → i < length bytes
    → is_space (get_or bytes i 0) ≡ true
    → (drop_front is_space (drop (i + 1) text) ≡ drop_front is_space (drop i text)) × IsCharBoundary text (i + 1)
front-goes bytes text i same utf8 h e =
    let h' : i < length text = rw same at h in
    let e' : is_space (get_or text i 0) ≡ true = rw same at e in
    (front-dropped is_space text i h' e', IsCharBoundary-after_ascii text i utf8 h' (space-ascii (get_or text i 0) e'))

pub front-stays : (bytes text : Field) (i : ℕ) → bytes ≡ text → i < length bytes → is_space (get_or bytes i 0) ≡ false
    → drop_front is_space (drop i text) ≡ drop i text
front-stays bytes text i same h e = grind (arith, get_or, front-kept)

pub front-ends : (bytes text : Field) (i : ℕ) → bytes ≡ text → length bytes ≤ i
    → drop_front is_space (drop i text) ≡ drop i text
front-ends bytes text i same h = grind (arith, front-nil)

-- what is dropped at the end

back-dropped : (test : ℕ → Bool) (bs : Field) (b : ℕ) → test b ≡ true
    → drop_back test (bs ++ (b ∷ [])) ≡ drop_back test bs
unfolding drop_back
back-dropped test [] b e = rw e refl
back-dropped test (x ∷ xs) b e = rw (back-dropped test xs b e) refl

back-kept : (test : ℕ → Bool) (bs : Field) (b : ℕ) → test b ≡ false → drop_back test (bs ++ (b ∷ [])) ≡ bs ++ (b ∷ [])
unfolding drop_back
back-kept test [] b e = rw e refl
back-kept test (x ∷ xs) b e = rw (back-kept test xs b e, some-left xs b, and-false (test x)) refl

pub range-start : (text : Field) (end : ℕ) → slice_range text 0 end ≡ take end text
range-start text end = grind arith

-- the text up to a place has the byte before that place last
last-byte : (bytes text : Field) (end : ℕ) → bytes ≡ text → 0 < end → end ≤ length text
    → take end text ≡ take (end - 1) text ++ (get_or bytes (end - 1) 0 ∷ [])
last-byte bytes text end same low high = grind (arith, get_or, take-suc)

pub back-goes : (bytes text : Field) (end : ℕ) → bytes ≡ text → 0 < end → end ≤ length text
    → is_space (get_or bytes (end - 1) 0) ≡ true
    → (drop_back is_space (take (end - 1) text) ≡ drop_back is_space (take end text)) × IsCharBoundary text (end - 1)
back-goes bytes text end same low high e =
    let e' : is_space (get_or text (end - 1) 0) ≡ true = rw same at e in (
      sym (back-dropped is_space (take (end - 1) text) (get_or bytes (end - 1) 0) e)
          ∙ ap (drop_back is_space) (sym (last-byte bytes text end same low high)),
      IsCharBoundary-before_ascii text (end - 1) (omega arith) (space-ascii (get_or text (end - 1) 0) e'),
    )

pub back-stays : (bytes text : Field) (end : ℕ) → bytes ≡ text → 0 < end → end ≤ length text
    → is_space (get_or bytes (end - 1) 0) ≡ false → drop_back is_space (take end text) ≡ take end text
back-stays bytes text end same low high e =
    let l = last-byte bytes text end same low high in
    ap (drop_back is_space) l ∙ back-kept is_space (take (end - 1) text) (get_or bytes (end - 1) 0) e ∙ sym l

pub back-ends : (text : Field) (end : ℕ) → end ≤ 0 → drop_back is_space (take end text) ≡ take end text
unfolding drop_back
back-ends text end h = grind arith

-- whether the fields from a place on are blank
pub blank-drop : (fs : Rec) (i : ℕ) (f : Field) → field_at fs i ≡ Some f
    → is_blank (drop i fs) ≡ (is_empty (clean f) && is_blank (drop (i + 1) fs))
unfolding is_blank
blank-drop fs i f e = all-drop (λ g. is_empty (clean g)) fs i f e

pub blank-none : (fs : Rec) (i : ℕ) → field_at fs i ≡ None → is_blank (drop i fs) ≡ true
unfolding is_blank
blank-none fs i e = rw (field-none fs i e) refl
