-- Dropping byte order marks.
use Rattle.std.proofs.Common.{◌≡◌, ◌≤◌, ◌+◌, ◌*◌, ℕ, List, [], ◌∷◌, length, refl, arith, Bool, true, false, take, drop, nat_eq}
use Rattle.std.specs.Prelude.{◌==◌, ◌&&◌}
use Rattle.std.specs.Cmp.Lexicographic.{pointwise}
use Rattle.csv.specs.Reading.{is_bom, records, strip_bom}
use Rattle.csv.specs.declared.parser.Config.{Config}
use Rattle.pb_records.specs.Records.{drop_marks}
use Rattle.pb_records.proofs.Csv.{count}

-- the reader finds no mark any more
pub strip_bom-drop_marks : (xs : List ℕ) → strip_bom (drop_marks xs) ≡ drop_marks xs
unfolding strip_bom drop_marks
strip_bom-drop_marks (a ∷ b ∷ c ∷ rest) = by (is_bom a b c) refl (strip_bom-drop_marks rest)
  where
    by : (t : Bool) → is_bom a b c ≡ t → strip_bom (drop_marks rest) ≡ drop_marks rest
        → strip_bom (drop_marks (a ∷ b ∷ c ∷ rest)) ≡ drop_marks (a ∷ b ∷ c ∷ rest)
    by true e h = rw e h
    by false e h = rw e (rw e refl)
strip_bom-drop_marks _ = refl

-- the bytes of the mark
abbrev pub mark : List ℕ
mark = 239 ∷ 187 ∷ 191 ∷ []

same_test : (p q r : Bool) → (p && (q && (r && true))) ≡ ((p && q) && r)
same_test true true true = refl
same_test true true false = refl
same_test true false r = refl
same_test false q r = refl

bom_test : (a b c : ℕ) (rest : List ℕ) → pointwise nat_eq (take 3 (a ∷ b ∷ c ∷ rest)) mark ≡ is_bom a b c
bom_test a b c rest = same_test (a == 239) (b == 187) (c == 191)

pub marks_more : (xs : List ℕ) → pointwise nat_eq (take 3 xs) mark ≡ true → drop_marks (drop 3 xs) ≡ drop_marks xs
unfolding drop_marks
marks_more [] h = cc h
marks_more (a ∷ []) h = both (a == 239) h
  where
    both : (t : Bool) → (t && false) ≡ true → drop_marks [] ≡ drop_marks (a ∷ [])
    both true h = cc
    both false h = cc
marks_more (a ∷ b ∷ []) h = both (a == 239) (b == 187) h
  where
    both : (t u : Bool) → (t && (u && false)) ≡ true → drop_marks [] ≡ drop_marks (a ∷ b ∷ [])
    both true true h = cc h
    both true false h = cc h
    both false u h = cc h
marks_more (a ∷ b ∷ c ∷ rest) h = rw (rw (bom_test a b c rest) at h) refl

pub marks_none : (xs : List ℕ) → pointwise nat_eq (take 3 xs) mark ≡ false → drop_marks xs ≡ xs
unfolding drop_marks
marks_none (a ∷ b ∷ c ∷ rest) h = rw (rw (bom_test a b c rest) at h) refl
marks_none _ h = refl

-- a file has at most half as many records as bytes, and one more byte
marks-shrink : (xs : List ℕ) → length (drop_marks xs) ≤ length xs
unfolding drop_marks
marks-shrink (a ∷ b ∷ c ∷ rest) = grind (arith, marks-shrink rest)
marks-shrink _ = omega arith

pub count-records : (cfg : Config) (bytes : List ℕ) → 2 * length (records cfg (drop_marks bytes)) ≤ length bytes + 1
count-records cfg bytes = grind (arith, count, marks-shrink)
