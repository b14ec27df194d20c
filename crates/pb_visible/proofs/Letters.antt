-- A text is shown letter by letter.
use Rattle.std.proofs.Common.{◌≡◌, ◌∷◌, ◌++◌, ℕ, List, [], IsUtf8, append-nil, append_assoc, arith, chars, encode_utf8, encode_utf8_all, length, refl}
use Rattle.std.proofs.lemmas.Str.{chars-nil, chars_past_char, encodes-append}
use Rattle.pb_visible.specs.Visible.{shown, visible_behind, visible_chars}

one_more : (before c after : ℕ) (cs : List ℕ)
    → encode_utf8_all (visible_behind before (c ∷ after ∷ cs))
    ≡ encode_utf8_all (shown before c after) ++ encode_utf8_all (visible_behind c (after ∷ cs))
unfolding visible_behind
one_more before c after cs = encodes-append (shown before c after) (visible_behind c (after ∷ cs))

last_one : (before c : ℕ) → encode_utf8_all (visible_behind before (c ∷ [])) ≡ encode_utf8_all (shown before c 0)
unfolding visible_behind
last_one before c = rw append-nil refl

chars_of_empty : (bs : List ℕ) → length bs ≡ 0 → chars bs ≡ []
chars_of_empty [] h = chars-nil
chars_of_empty (b ∷ bs) h = absurd (omega arith)

-- of a text without letters nothing is written
pub none_to_write : (given : List ℕ) → length given ≡ 0 → encode_utf8_all (visible_chars (chars given)) ≡ []
unfolding visible_behind
none_to_write given h = rw (chars_of_empty given h) refl

-- before the first letter is written, the whole text is to come
pub first_to_write : (given rest written : List ℕ) (c : ℕ) → IsUtf8 given → given ≡ encode_utf8 c ++ rest → written ≡ []
    → written ++ encode_utf8_all (visible_behind 0 (c ∷ chars rest)) ≡ encode_utf8_all (visible_chars (chars given))
first_to_write given rest written c u e h = rw (h, chars_past_char given rest c u e) refl

-- a letter is written once the one behind it is known
pub more_written : (old new whole rest left : List ℕ) (before c after : ℕ) → IsUtf8 left → left ≡ encode_utf8 after ++ rest
    → new ≡ old ++ encode_utf8_all (shown before c after)
    → old ++ encode_utf8_all (visible_behind before (c ∷ chars left)) ≡ whole
    → new ++ encode_utf8_all (visible_behind c (after ∷ chars rest)) ≡ whole
more_written old new whole rest left before c after u e pushed held =
    let step : old ++ encode_utf8_all (visible_behind before (c ∷ after ∷ chars rest)) ≡ whole =
    rw (chars_past_char left rest after u e) at held in
    rw (pushed, append_assoc, ← one_more before c after (chars rest)) step

-- the last letter has none behind it
pub all_written : (old new whole left : List ℕ) (before c : ℕ) → length left ≡ 0
    → new ≡ old ++ encode_utf8_all (shown before c 0)
    → old ++ encode_utf8_all (visible_behind before (c ∷ chars left)) ≡ whole → new ≡ whole
all_written old new whole left before c empty pushed held =
    let step : old ++ encode_utf8_all (visible_behind before (c ∷ [])) ≡ whole = rw (chars_of_empty left empty) at held in
    rw (pushed, ← last_one before c) step
