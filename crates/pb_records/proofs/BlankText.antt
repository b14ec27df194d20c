-- A blank record is text: what cleaning drops is ASCII.
use Rattle.std.proofs.Common.{◌≡◌, [], ◌∷◌, refl, Bool, true, false}
use Rattle.std.specs.Prelude.{◌&&◌, if◌then◌else◌}
use Rattle.std.specs.List.{list_all}
use Rattle.std.specs.Str.{IsAscii, is_utf8}
use Rattle.std.proofs.lemmas.Bool.{false_from_ne_true}
use Rattle.std.proofs.lemmas.Str.{IsUtf8-from_ascii, is_utf8-from_IsUtf8}
use Rattle.std.proofs.lemmas.Str.Ascii.{IsAscii-nil, IsAscii-cons}
use Rattle.pb_money.specs.Digits.{drop_back, drop_front, is_empty}
use Rattle.pb_records.specs.Records.{Field, Rec}
use Rattle.pb_records.specs.Cells.{clean, is_blank, is_space, is_text}
use Rattle.pb_records.proofs.CellLemmas.{space-ascii}

-- where nothing is left, all was space
ascii-back : (f : Field) → is_empty (drop_back is_space f) ≡ true → IsAscii f
unfolding drop_back
ascii-back [] h = IsAscii-nil
ascii-back (b ∷ bs) h = by (is_space b) (is_empty (drop_back is_space bs)) refl refl h (ascii-back bs)
  where
    by : (s e : Bool) → is_space b ≡ s → is_empty (drop_back is_space bs) ≡ e
        → is_empty (if s && e then [] else b ∷ drop_back is_space bs) ≡ true
        → (is_empty (drop_back is_space bs) ≡ true → IsAscii bs) → IsAscii (b ∷ bs)
    by true true s e k more = IsAscii-cons b bs (space-ascii b s) (more e)
    by true false s e k more = cc k
    by false e s d k more = cc k

ascii-front : (f : Field) → is_empty (clean f) ≡ true → IsAscii f
unfolding drop_front
ascii-front [] h = IsAscii-nil
ascii-front (b ∷ bs) h = by (is_space b) refl h (ascii-front bs)
  where
    by : (s : Bool) → is_space b ≡ s → is_empty (drop_back is_space (if s then drop_front is_space bs else b ∷ bs))
        ≡ true
        → (is_empty (clean bs) ≡ true → IsAscii bs) → IsAscii (b ∷ bs)
    by true s k more = IsAscii-cons b bs (space-ascii b s) (more k)
    by false s k more = ascii-back (b ∷ bs) k

blank-is-text : (r : Rec) → is_blank r ≡ true → is_text r ≡ true
unfolding is_blank is_text
blank-is-text [] h = refl
blank-is-text (f ∷ fs) h = by (is_empty (clean f)) refl h (blank-is-text fs)
  where
    by : (e : Bool) → is_empty (clean f) ≡ e → (e && list_all (λ g. is_empty (clean g)) fs) ≡ true
        → (list_all (λ g. is_empty (clean g)) fs ≡ true → list_all is_utf8 fs ≡ true)
        → (is_utf8 f && list_all is_utf8 fs) ≡ true
    by true e k more = rw (is_utf8-from_IsUtf8 f (IsUtf8-from_ascii f (ascii-front f e)), more k) refl
    by false e k more = cc k

pub not-text-is-full : (r : Rec) → is_text r ≡ false → is_blank r ≡ false
not-text-is-full r n = false_from_ne_true (is_blank r) (λ b. let t = blank-is-text r b in cc (n, t))
