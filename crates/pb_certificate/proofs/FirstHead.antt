-- As which kind of certificate a file is taken.
use Rattle.std.proofs.Common.{◌≡◌, ◌∙◌, ℕ, Bool, true, false, List, [], ◌∷◌, ◌++◌, refl, sym, ap, subst}
use Rattle.std.specs.Prelude.{◌&&◌, codes, map, nat_lt, if◌then◌else◌, not}
use Rattle.std.specs.List.{list_all}
use Rattle.std.specs.Str.{IsAscii, IsUtf8, is_utf8}
use Rattle.std.proofs.lemmas.Bool.{and_parts, false_from_ne_true, ltb-true}
use Rattle.std.proofs.lemmas.List.Elements.{filter-append}
use Rattle.std.proofs.lemmas.Str.{IsUtf8-append, IsUtf8-from_ascii, IsUtf8-from_is_utf8, IsUtf8-nil, is_utf8-from_IsUtf8}
use Rattle.std.proofs.lemmas.Str.Ascii.{IsAscii-cons, IsAscii-nil}
use Rattle.pb_money.specs.Digits.{drop_back, drop_front, is_empty}
use Rattle.pb_records.specs.Records.{Field, Rec}
use Rattle.pb_records.specs.Cells.{clean, is_blank, is_space, is_text, nonblank}
use Rattle.pb_records.specs.Inside.Position.{MeetsEnd, MeetsNotText, MeetsRecord, Position}
use Rattle.pb_records.proofs.BlankText.{not-text-is-full}
use Rattle.pb_records.proofs.CellLemmas.{space-ascii}
use Rattle.pb_certificate.specs.Fields.{fields, same_fields, without_empty_end}
use Rattle.pb_certificate.specs.Kinds.{kind_by, kind_by_head}
use Rattle.pb_certificate.specs.Refutations.Text.{refutation_name}
use Rattle.pb_certificate.specs.Violations.Text.{version_1, version_2}
use Rattle.pb_certificate.specs.declared.kind.Kind.TheVariants as kind
use Rattle.pb_certificate.proofs.Heads.{same-is}

-- What cleaning drops is ASCII, so a field is UTF-8 where it is after cleaning.

front-utf8 : (f : Field) → IsUtf8 (drop_front is_space f) → IsUtf8 f
unfolding drop_front
front-utf8 [] u = u
front-utf8 (b ∷ bs) u = by (is_space b) refl u (front-utf8 bs)
  where
    by : (s : Bool) → is_space b ≡ s → IsUtf8 (if s then drop_front is_space bs else b ∷ bs)
        → (IsUtf8 (drop_front is_space bs) → IsUtf8 bs) → IsUtf8 (b ∷ bs)
    by true s k more =
        IsUtf8-append (b ∷ []) bs (IsUtf8-from_ascii (b ∷ []) (IsAscii-cons b [] (space-ascii b s) IsAscii-nil))
        (more k)
    by false s k more = k

-- a field is what stays of it at the end, and spaces behind
record Kept (f : Field) : Type 0 where
  spaces : List ℕ
  cut : f ≡ drop_back is_space f ++ spaces
  ascii : IsAscii spaces

kept : (f : Field) → Kept f
unfolding drop_back
kept [] = record { spaces = []; cut = refl; ascii = IsAscii-nil }
kept (b ∷ bs) = by (is_space b) (drop_back is_space bs) refl refl (kept bs)
  where
    by : (s : Bool) (back : Field) → is_space b ≡ s → drop_back is_space bs ≡ back → Kept bs → Kept (b ∷ bs)
    by true [] s k rest =
        let all : bs ≡ rest.spaces = rw k at rest.cut in
        record {
          spaces = b ∷ bs;
          cut = rw (s, k) refl;
          ascii = IsAscii-cons b bs (space-ascii b s) (subst IsAscii (sym all) rest.ascii);
        }
    by true (x ∷ xs) s k rest =
        record {
          spaces = rest.spaces;
          cut = rw (s, k) (ap (λ (ys : Field). b ∷ ys) (rw k at rest.cut));
          ascii = rest.ascii;
        }
    by false back s k rest =
        record { spaces = rest.spaces; cut = rw s (ap (λ (ys : Field). b ∷ ys) rest.cut); ascii = rest.ascii }

back-utf8 : (f : Field) → IsUtf8 (drop_back is_space f) → IsUtf8 f
back-utf8 f u = let k = kept f in
    subst IsUtf8 (sym k.cut) (IsUtf8-append (drop_back is_space f) k.spaces u (IsUtf8-from_ascii k.spaces k.ascii))

clean-utf8 : (f : Field) → is_utf8 (clean f) ≡ true → is_utf8 f ≡ true
clean-utf8 f u =
    is_utf8-from_IsUtf8 f (front-utf8 f (back-utf8 (drop_front is_space f) (IsUtf8-from_is_utf8 (clean f) u)))

-- A record is UTF-8 where its fields are that count.

with-end : (fs : List Field) → list_all is_utf8 (without_empty_end fs) ≡ true → list_all is_utf8 fs ≡ true
with-end [] u = refl
with-end (f ∷ fs) u = by f (without_empty_end fs) refl u (with-end fs)
  where
    by : (f : Field) (more : List Field) → without_empty_end fs ≡ more
        → list_all is_utf8 (if is_empty f && is_empty more then [] else f ∷ more) ≡ true
        → (list_all is_utf8 (without_empty_end fs) ≡ true → list_all is_utf8 fs ≡ true)
        → list_all is_utf8 (f ∷ fs) ≡ true
    by [] more e k rest = rw (is_utf8-from_IsUtf8 [] IsUtf8-nil) (rest (by-empty more e k))
      where
        by-empty : (more : List Field) → without_empty_end fs ≡ more
            → list_all is_utf8 (if is_empty more then [] else [] ∷ more) ≡ true
            → list_all is_utf8 (without_empty_end fs) ≡ true
        by-empty [] e k = rw e refl
        by-empty (g ∷ gs) e k = rw e (and_parts (is_utf8 []) (list_all is_utf8 (g ∷ gs)) k).1
    by (x ∷ xs) more e k rest =
        let parts = and_parts (is_utf8 (x ∷ xs)) (list_all is_utf8 more) k in
        rw (parts.0, rest (ap (list_all is_utf8) e ∙ parts.1)) refl

text-by-clean : (r : Rec) → list_all is_utf8 (map clean r) ≡ true → is_text r ≡ true
unfolding is_text
text-by-clean [] u = refl
text-by-clean (f ∷ fs) u =
    let parts = and_parts (is_utf8 (clean f)) (list_all is_utf8 (map clean fs)) u in
    rw (clean-utf8 f parts.0, text-by-clean fs parts.1) refl

text-by-fields : (r : Rec) → list_all is_utf8 (fields r) ≡ true → is_text r ≡ true
text-by-fields r u = text-by-clean r (with-end (map clean r) u)

head-is-text : (r : Rec) (head : List Field) → list_all is_utf8 head ≡ true → same_fields (fields r) head ≡ true
    → is_text r ≡ true
head-is-text r head u same = text-by-fields r (ap (list_all is_utf8) (same-is (fields r) head same) ∙ u)

no-head : (r : Rec) (head : List Field) → list_all is_utf8 head ≡ true → is_text r ≡ false
    → same_fields (fields r) head ≡ false
no-head r head u n =
    false_from_ne_true (same_fields (fields r) head) (λ same. let t = head-is-text r head u same in cc (n, t))

ascii : (f : Field) → list_all (λ b. nat_lt b 128) f ≡ true → IsAscii f
ascii [] h = IsAscii-nil
ascii (b ∷ bs) h =
    let parts = and_parts (nat_lt b 128) (list_all (λ c. nat_lt c 128) bs) h in
    IsAscii-cons b bs (ltb-true b 128 parts.0) (ascii bs parts.1)

plain : (f : Field) → list_all (λ b. nat_lt b 128) f ≡ true → is_utf8 f ≡ true
plain f h = is_utf8-from_IsUtf8 f (IsUtf8-from_ascii f (ascii f h))

version-1-text : list_all is_utf8 version_1 ≡ true
version-1-text = rw (plain (codes "pb-violation") refl, plain (codes "1") refl) refl

version-2-text : list_all is_utf8 version_2 ≡ true
version-2-text = rw (plain (codes "pb-violation") refl, plain (codes "2") refl) refl

name-text : list_all is_utf8 refutation_name ≡ true
name-text = rw (plain (codes "pb-refutation") refl, plain (codes "1") refl) refl

-- What is met before the first record that is not blank, and that record.

first-full : (recs blanks rest : List Rec) (r : Rec) → nonblank blanks ≡ [] → recs ≡ blanks ++ (r ∷ rest)
    → is_blank r ≡ false → nonblank recs ≡ r ∷ nonblank rest
first-full recs blanks rest r none cut full =
    let parts : nonblank (blanks ++ (r ∷ rest)) ≡ nonblank blanks ++ nonblank (r ∷ rest) =
    filter-append (λ x. not (is_blank x)) blanks (r ∷ rest) in
    let first : nonblank (r ∷ rest) ≡ r ∷ nonblank rest = rw full refl in
    ap nonblank cut ∙ parts ∙ rw (none, first) refl

-- As what a file is taken, by what is met first.

kind-by-first : (recs rest : List Rec) (r : Rec) → nonblank recs ≡ r ∷ nonblank rest → kind_by recs ≡ kind_by_head r
kind-by-first recs rest r first = rw first refl

pub kind-with : (old new : Position) → MeetsRecord old new → kind_by old.left ≡ kind_by_head new.row
kind-with old new m =
    kind-by-first old.left new.left new.row (first-full old.left m.blanks new.left new.row m.are_blank m.cut m.is_full)

pub kind-with-bytes : (old new : Position) → MeetsNotText old new → kind_by old.left ≡ kind.Prices
kind-with-bytes old new m =
    kind-by-first old.left m.rest m.bad
    (first-full old.left m.blanks m.rest m.bad m.are_blank m.cut (not-text-is-full m.bad m.is_not_utf8))
    ∙ rw (
      no-head m.bad version_1 version-1-text m.is_not_utf8,
      no-head m.bad version_2 version-2-text m.is_not_utf8,
      no-head m.bad refutation_name name-text m.is_not_utf8,
    ) refl

pub kind-with-end : (old new : Position) → MeetsEnd old new → kind_by old.left ≡ kind.Prices
kind-with-end old new m = rw m.are_blank refl
