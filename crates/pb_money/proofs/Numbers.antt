-- Digits, one more at a time.
use Rattle.std.proofs.Common.{◌≡◌, ◌≤◌, ◌<◌, ◌∙◌, ◌+◌, ◌*◌, ◌-◌, ◌^◌, ℕ, suc, zero, List, [], ◌∷◌, refl, sym, ap, arith, true, false, length, take, drop, get_or, take-append-drop}
use Rattle.std.proofs.Math.Nat.{pow-le-pow_right, pow-suc}
use Rattle.std.proofs.lemmas.Bool.{and_parts}
use Rattle.std.proofs.lemmas.Bool.Decides.{nat_tests}
use Rattle.std.proofs.lemmas.List.Sums.{fold-append, fold_more}
use Rattle.std.specs.Char.{is_ascii_digit}
use Rattle.std.specs.List.{fold, list_all, prefix_len}
use Rattle.std.specs.Prelude.{◌==◌, None}
use Rattle.std.specs.Str.{all_ascii_digits, byte}
use Rattle.pb_money.specs.Digits.{is_empty, number_of, up_to}

-- a number, and one more digit behind it
abbrev pub append_digit : ℕ → ℕ → ℕ
append_digit n d = n * 10 + (d - byte "0")

-- more digits never make a number less
grows : (n : ℕ) (digits : List ℕ) → n ≤ fold append_digit n digits
grows n [] = omega arith
grows n (d ∷ ds) = omega (arith, grows (append_digit n d) ds)

pub number-more : (digits : List ℕ) (i : ℕ) → i < length digits
    → number_of (take (i + 1) digits) ≡ append_digit (number_of (take i digits)) (get_or digits i 0)
number-more digits i h = fold_more append_digit 0 digits i 0 h

number-take : (digits : List ℕ) (i : ℕ) → number_of (take i digits) ≤ number_of digits
number-take digits i =
    let whole : number_of digits ≡ fold append_digit (number_of (take i digits)) (drop i digits) =
    ap number_of (sym (take-append-drop i digits)) ∙ fold-append append_digit 0 (take i digits) (drop i digits) in
    omega (arith, grows (number_of (take i digits)) (drop i digits))

-- a part of the digits that is already too large, and then the whole number
pub too-large : (digits : List ℕ) (i n most : ℕ) → n ≡ number_of (take i digits) → most < n
    → None ≡ up_to most (number_of digits)
too-large digits i n most e h = grind (arith, number-take, nat_tests)

not-zero : (n : ℕ) → (suc n == 0) ≡ false
not-zero n = grind (arith, nat_tests)

pub is-empty : (text : List ℕ) → is_empty text ≡ (length text == 0)
is-empty [] = refl
is-empty (b ∷ bs) = sym (not-zero (length bs))

pub all-digits : (text : List ℕ) → all_ascii_digits text ≡ list_all is_ascii_digit text
all-digits [] = refl
all-digits (b ∷ bs) = rw (all-digits bs) refl

-- the tests of the code and those of the definitions
pub ruleset digit_tests = (is-empty, all-digits)

pub digit-range : (d : ℕ) → is_ascii_digit d ≡ true → (byte "0" ≤ d) × (d ≤ byte "9")
digit-range d h = grind (arith, nat_tests)

-- each byte of a text of digits is one
pub digit-at : (digits : List ℕ) (i : ℕ) → all_ascii_digits digits ≡ true → i < length digits
    → (byte "0" ≤ get_or digits i 0) × (get_or digits i 0 ≤ byte "9")
digit-at [] i e h = absurd (omega arith)
digit-at (d ∷ ds) zero e h = digit-range d (and_parts (is_ascii_digit d) (all_ascii_digits ds) e).0
digit-at (d ∷ ds) (suc i) e h = digit-at ds i (and_parts (is_ascii_digit d) (all_ascii_digits ds) e).1 (omega arith)

-- one more digit
pub all-more : (text : List ℕ) (i : ℕ) → i < length text → all_ascii_digits (take i text) ≡ true
    → is_ascii_digit (get_or text i 0) ≡ true → all_ascii_digits (take (suc i) text) ≡ true
all-more [] i h a d = absurd (omega arith)
all-more (b ∷ bs) zero h a d = rw d refl
all-more (b ∷ bs) (suc i) h a d = grind (arith, all-more bs i)

-- as many digits as were met stand in front, and no more where another byte stands next
pub digits-in-front : (text : List ℕ) (i : ℕ) → i ≤ length text → all_ascii_digits (take i text) ≡ true
    → i ≤ prefix_len is_ascii_digit text
digits-in-front [] i h a = h
digits-in-front (b ∷ bs) zero h a = omega arith
digits-in-front (b ∷ bs) (suc i) h a = grind (arith, digits-in-front bs i)

pub no-more-in-front : (text : List ℕ) (i : ℕ) → is_ascii_digit (get_or text i 0) ≡ false
    → prefix_len is_ascii_digit text ≤ i
no-more-in-front [] i e = omega arith
no-more-in-front (b ∷ bs) zero e = rw e (omega arith)
no-more-in-front (b ∷ bs) (suc i) e = grind (arith, no-more-in-front bs i e)

-- a number of some digits, and one more digit behind it
pub one-longer : (n i d : ℕ) → n < 10 ^ i → d ≤ 9 → n * 10 + d < 10 ^ suc i
one-longer n i d h k = rw (pow-suc 10 i) (omega (arith, h, k))

pub eighteen-at-most : (n i : ℕ) → n < 10 ^ i → i ≤ 18 → n < 10 ^ 18
eighteen-at-most n i h k = omega (arith, pow-le-pow_right {n = 10} (omega arith) {i = i} {j = 18} k)
