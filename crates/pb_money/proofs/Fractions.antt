-- Fractions: the zeros at their end, and their value in millionths.
use Rattle.std.proofs.Common.{◌≡◌, ◌≤◌, ◌<◌, ◌∙◌, ◌+◌, ◌*◌, ◌-◌, ◌/◌, ◌^◌, ◌++◌, ℕ, suc, List, [], ◌∷◌, refl, ap, arith, Bool, true, false, length, take, get_or}
use Rattle.std.proofs.Math.Nat.{pow-suc, mul-le-mul_right}
use Rattle.std.proofs.lemmas.Bool.{and_from, and_parts, and_right}
use Rattle.std.specs.Char.{is_ascii_digit}
use Rattle.std.specs.Prelude.{◌==◌, ◌&&◌, if◌then◌else◌}
use Rattle.std.specs.Str.{all_ascii_digits, byte}
use Rattle.pb_money.specs.Digits.{drop_back, is_empty, number_of}
use Rattle.pb_money.specs.Money.{without_last_zeros}
use Rattle.pb_money.proofs.Numbers.{digit-at, number-more}

pub zeros-nil : (xs : List ℕ) → length xs ≡ 0 → without_last_zeros xs ≡ xs
unfolding drop_back
zeros-nil [] e = refl
zeros-nil (x ∷ xs) e = absurd (omega arith)

pub zeros-more : (xs : List ℕ) (b : ℕ) → (b == byte "0") ≡ true
    → without_last_zeros (xs ++ (b ∷ [])) ≡ without_last_zeros xs
unfolding drop_back
zeros-more [] b e = rw e refl
zeros-more (x ∷ xs) b e = rw (zeros-more xs b e) refl

pub some-left : (xs : List ℕ) (b : ℕ) → is_empty (xs ++ (b ∷ [])) ≡ false
some-left [] b = refl
some-left (x ∷ xs) b = refl

pub zeros-other : (xs : List ℕ) (b : ℕ) → (b == byte "0") ≡ false → without_last_zeros (xs ++ (b ∷ [])) ≡ xs ++ (b ∷ [])
unfolding drop_back
zeros-other [] b e = rw e refl
zeros-other (x ∷ xs) b e = rw (zeros-other xs b e, some-left xs b, and_right (x == byte "0") false refl) refl

kept : (b : Bool) (d : ℕ) (ds : List ℕ) → all_ascii_digits (d ∷ ds) ≡ true
    → all_ascii_digits (if b then [] else d ∷ ds) ≡ true
kept true d ds h = refl
kept false d ds h = h

-- what is left of digits is digits
pub zeros-digits : (xs : List ℕ) → all_ascii_digits xs ≡ true → all_ascii_digits (without_last_zeros xs) ≡ true
unfolding drop_back
zeros-digits [] h = refl
zeros-digits (x ∷ xs) h =
    let parts = and_parts (is_ascii_digit x) (all_ascii_digits xs) h in
    kept (x == byte "0" && is_empty (without_last_zeros xs)) x (without_last_zeros xs)
    (and_from (is_ascii_digit x) (all_ascii_digits (without_last_zeros xs)) parts.0 (zeros-digits xs parts.1))

unit-step : (i u : ℕ) → i < 6 → u ≡ 10 ^ (6 - i) → (u / 10 ≡ 10 ^ (6 - (i + 1))) × (u ≡ 10 * (u / 10))
unit-step i u h e =
    let k : 6 - i ≡ suc (6 - (i + 1)) = omega arith in
    let p : u ≡ 10 ^ (6 - (i + 1)) * 10 = e ∙ ap (λ n. 10 ^ n) k ∙ pow-suc 10 (6 - (i + 1)) in
    (omega arith, omega arith)

digit-value : (digits : List ℕ) (i v : ℕ) → all_ascii_digits digits ≡ true → i < length digits
    → (get_or digits i 0 - byte "0") * v ≤ 9 * v
digit-value digits i v a h = grind (arith, digit-at, get_or, mul-le-mul_right)

-- m millionths in the first i digits, the last of which counts u, and then one more digit of value k
pub fraction-step : (digits : List ℕ) (i m u k : ℕ) → all_ascii_digits digits ≡ true → i < length digits
    → length digits ≤ 6 → u ≡ 10 ^ (6 - i) → m ≡ number_of (take i digits) * u → m + u ≤ 10 ^ 6
    → k ≡ get_or digits i 0 - byte "0"
    → (u / 10 ≡ 10 ^ (6 - (i + 1))) × (m + k * (u / 10) ≡ number_of (take (i + 1) digits) * (u / 10))
    × (m + k * (u / 10) + u / 10 ≤ 10 ^ 6)
fraction-step digits i m u k a h six unit value small e = grind (arith, unit-step, digit-value, number-more)
