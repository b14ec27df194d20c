-- What a text that is shown has of the characters that can't be seen.
use Rattle.std.proofs.Common.{◌≡◌, ◌<◌, ◌⊎◌, inl, inr, ℕ, zero, suc, Bool, true, false, List, [], ◌∷◌, ◌++◌, arith, codes, encode_utf8_all, get_or, refl, ap, sym, ◌∙◌, Result, Ok, Err, String, string_bytes, IfOk}
use Rattle.std.specs.Prelude.{◌&&◌, ◌||◌, not, nat_lt, if◌then◌else◌, chars, IsUtf8}
use Rattle.std.specs.Char.{digit_value}
use Rattle.std.specs.Cmp.{first_so, second_so}
use Rattle.std.specs.Fmt.{digits}
use Rattle.std.specs.Str.{NoCharPasses, NonePass}
use Rattle.std.specs.Str.Parse.{AllDigits}
use Rattle.std.proofs.Math.Utf8.{scalar, scalars, scalar_fits}
use Rattle.std.proofs.lemmas.Bool.Decides.{nat_tests}
use Rattle.std.proofs.lemmas.Str.{chars_from_encodes, encodes-chars, scalars-chars}
use Rattle.ucd_category.proofs.Computing.{ucd_category}
use Rattle.ucd_derived.proofs.Computing.{ucd_derived}
use Rattle.pb_visible.specs.Hidden.{is_hidden}
use Rattle.pb_visible.specs.Joiners.{are_conjoined, are_cursive, are_emoji, is_joiner, is_non_joiner, is_spelling}
use Rattle.pb_visible.specs.Visible.{is_lost, number, shown, visible_behind, visible_chars}
use Rattle.pb_visible.proofs.Numbers.{digit_small, digits_are}

neither : (s t : Bool) → s ≡ true → not (s && t) ≡ true → t ≡ false
neither true true h k = absurd cc
neither true false h k = refl
neither false t h k = absurd cc

either : (d n : ℕ) → d < suc n → (d ≡ n) ⊎ (d < n)
either d n h = grind arith

-- a test at each number below another
unfoldable passes_below : (ℕ → Bool) → ℕ → Bool
passes_below test zero = true
passes_below test (suc n) = test n && passes_below test n

below : (test : ℕ → Bool) (n d : ℕ) → passes_below test n ≡ true → d < n → test d ≡ true
unfolding passes_below
below test zero d h l = absurd (omega arith)
below test (suc n) d h l =
    elim (either d n l) as (λ _. test d ≡ true) [
      | inl e ↦ rw e (first_so (test n) (passes_below test n) h)
      | inr k ↦ below test n d (second_so (test n) (passes_below test n) h) k
    ]

-- no digit of a number is hidden
abbrev is_seen_digit : ℕ → Bool
is_seen_digit d = not (nat_lt (digit_value d) 16 && is_hidden d)

seen_digits : passes_below is_seen_digit 128 ≡ true
unfolding passes_below is_hidden ucd_category ucd_derived
seen_digits = refl

less : (a b : ℕ) → a < b → nat_lt a b ≡ true
less a b h = grind (arith, nat_tests)

seen_digit : (d : ℕ) → digit_value d < 16 → is_hidden d ≡ false
seen_digit d h =
    neither _ _ (less (digit_value d) 16 h) (below is_seen_digit 128 d seen_digits (digit_small d h))

kept : (c : ℕ) → is_hidden c ≡ false → is_lost c ≡ false
kept c h = rw h refl

none_append : (test : ℕ → Bool) (xs ys : List ℕ) → NonePass test xs → NonePass test ys → NonePass test (xs ++ ys)
none_append test [] ys h k = k
none_append test (x ∷ xs) ys h k = (h.0, none_append test xs ys h.1 k)

kept_digits : (ds : List ℕ) → AllDigits 16 ds → NonePass is_lost ds
kept_digits [] h = tt
kept_digits (d ∷ ds) h = (kept d (seen_digit d h.0), kept_digits ds h.1)

kept_front : NonePass is_lost (codes "\\u{")
unfolding is_hidden ucd_category ucd_derived
kept_front = (refl, (refl, (refl, tt)))

kept_back : NonePass is_lost (codes "}")
unfolding is_hidden ucd_category ucd_derived
kept_back = (refl, tt)

kept_number : (c : ℕ) → scalar c ≡ true → NonePass is_lost (number c)
unfolding number
kept_number c s =
    none_append is_lost (codes "\\u{") (digits 16 false c ++ codes "}") kept_front
    (none_append is_lost (digits 16 false c) (codes "}")
    (kept_digits (digits 16 false c) (digits_are c (scalar_fits c s))) kept_back)

choice : (b : Bool) (xs ys : List ℕ) → NonePass is_lost xs → (b ≡ false → NonePass is_lost ys)
    → NonePass is_lost (if b then xs else ys)
choice true xs ys h k = h
choice false xs ys h k = k refl

joins : (j n s t : Bool) → ((n && s) || (j && t)) ≡ true → (j || n) ≡ true
joins true n s t h = refl
joins false true s t h = refl
joins false false s t h = h

-- a joiner that stays is one
spelling_joins : (before c after : ℕ) → is_spelling before c after ≡ true → (is_joiner c || is_non_joiner c) ≡ true
unfolding is_spelling
spelling_joins before c after h =
    joins (is_joiner c) (is_non_joiner c) (are_conjoined before after || are_cursive before after)
    (are_conjoined before after || are_emoji before after) h

kept_letter : (h s j : Bool) → (h && not s) ≡ false → (s ≡ true → j ≡ true) → (h && not j) ≡ false
kept_letter false s j e k = refl
kept_letter true false j e k = absurd cc
kept_letter true true j e k = rw (k refl) refl

kept_shown : (before c after : ℕ) → scalar c ≡ true → NonePass is_lost (shown before c after)
unfolding shown
kept_shown before c after s =
    choice (is_hidden c && not (is_spelling before c after)) (number c) (c ∷ []) (kept_number c s)
    (λ e. (
      kept_letter (is_hidden c) (is_spelling before c after) (is_joiner c || is_non_joiner c) e
          (spelling_joins before c after),
      tt,
    ))

kept_chars : (before : ℕ) (cs : List ℕ) → scalars cs ≡ true → NonePass is_lost (visible_behind before cs)
unfolding visible_behind
kept_chars before [] h = tt
kept_chars before (c ∷ cs) h =
    none_append is_lost (shown before c (get_or cs 0 0)) (visible_behind c cs)
    (kept_shown before c (get_or cs 0 0) (first_so (scalar c) (scalars cs) h))
    (kept_chars c cs (second_so (scalar c) (scalars cs) h))

-- a text that is shown has no hidden character but joiners
pub none_lost : (given t : List ℕ) → IsUtf8 given → t ≡ encode_utf8_all (visible_chars (chars given))
    → NoCharPasses is_lost t
none_lost given t u e = (visible_chars (chars given), sym e, kept_chars 0 (chars given) (scalars-chars given u))

same_letter : (h s : Bool) (xs ys : List ℕ) → h ≡ false → (if h && not s then xs else ys) ≡ ys
same_letter true s xs ys e = absurd cc
same_letter false s xs ys e = refl

same_chars : (before : ℕ) (cs : List ℕ) → NonePass is_hidden cs → visible_behind before cs ≡ cs
unfolding visible_behind shown
same_chars before [] h = refl
same_chars before (c ∷ cs) h =
    rw (same_letter (is_hidden c) (is_spelling before c (get_or cs 0 0)) (number c) (c ∷ []) h.0, same_chars c cs h.1)
    refl

-- a text without hidden characters stays as it is
pub unchanged : (given t : List ℕ) → IsUtf8 given → t ≡ encode_utf8_all (visible_chars (chars given))
    → NoCharPasses is_hidden given → t ≡ given
unchanged given t u e h =
    let is : h.0 ≡ chars given = chars_from_encodes h.0 given u h.1 in
    let none : NonePass is_hidden (chars given) = rw is at h.2 in
    e ∙ (ap encode_utf8_all (same_chars 0 (chars given) none) ∙ encodes-chars given u)

-- the same of what a call gives
pub none_lost_in : {Z E : Type 0} (r : Result (String Z) E) (given letters : List ℕ) → letters ≡ chars given → IsUtf8 given
    → IfOk r (λ t. string_bytes t ≡ encode_utf8_all (visible_chars letters))
    → IfOk r (λ t. NoCharPasses is_lost (string_bytes t))
none_lost_in (Ok t) given letters is u h = none_lost given (string_bytes t) u (rw is at h)
none_lost_in (Err e) given letters is u h = tt

pub unchanged_in : {Z E : Type 0} (r : Result (String Z) E) (given lossy letters : List ℕ) → letters ≡ chars lossy
    → (IsUtf8 given → lossy ≡ given) → IfOk r (λ t. string_bytes t ≡ encode_utf8_all (visible_chars letters))
    → IfOk r (λ t. IsUtf8 given → NoCharPasses is_hidden given → string_bytes t ≡ given)
unchanged_in (Ok t) given lossy letters is same h = λ u k.
    let e : letters ≡ chars given = is ∙ ap chars (same u) in
    unchanged given (string_bytes t) u (rw e at h) k
unchanged_in (Err e) given lossy letters is same h = tt
