-- The mark between the whole part and the fraction.
use Rattle.std.proofs.Common.{◌≡◌, ◌≤◌, ◌∙◌, ◌+◌, ◌-◌, ℕ, suc, List, [], ◌∷◌, refl, sym, arith, Bool, true, false, cond, length, take, drop, Some, None}
use Rattle.std.proofs.lemmas.Bool.{le-ltb, lt-ltb, ltb-false}
use Rattle.std.proofs.lemmas.Bool.Decides.{nat_tests}
use Rattle.std.proofs.lemmas.List.{take_rest}
use Rattle.std.proofs.lemmas.List.Sums.{prefix_len-le-length}
use Rattle.std.specs.Bool.{then_some}
use Rattle.std.specs.List.{list_any, position_or_len}
use Rattle.std.specs.Prelude.{◌&&◌, ◌||◌, is_some, nat_lt, not, unwrap_or}
use Rattle.pb_money.specs.Digits.{are_digits}
use Rattle.pb_money.specs.Money.{is_mark, is_number}

shift : (n m : ℕ) → nat_lt n m ≡ nat_lt (1 + n) (suc m)
shift n m = grind (arith, nat_tests)

marked-cons : (b : Bool) (n m : ℕ) (rest : Bool) → rest ≡ nat_lt n m
    → (b || rest) ≡ nat_lt (cond (not b) (1 + n) 0) (suc m)
marked-cons true n m rest e = sym (lt-ltb 0 (suc m) (omega arith))
marked-cons false n m rest e = e ∙ shift n m

-- there is a mark where its place is within the text
pub marked : (p : ℕ → Bool) (xs : List ℕ) → list_any p xs ≡ nat_lt (position_or_len p xs) (length xs)
marked p [] = refl
marked p (x ∷ xs) = marked-cons (p x) (position_or_len p xs) (length xs) (list_any p xs) (marked p xs)

place-by : (b : Bool) (p n : ℕ) → nat_lt p n ≡ b → p ≤ n → unwrap_or (cond b (Some p) None) n ≡ p
place-by true p n e h = refl
place-by false p n e h = omega (arith, ltb-false p n e)

pub place : (p : ℕ → Bool) (xs : List ℕ)
    → unwrap_or (cond (nat_lt (position_or_len p xs) (length xs)) (Some (position_or_len p xs)) None) (length xs)
    ≡ position_or_len p xs
place p xs = grind (arith, place-by, prefix_len-le-length)

alone : (a b c : Bool) → a ≡ true → b ≡ false → true ≡ (a && (not b || c))
alone a b c h k = grind arith

followed : (a b c : Bool) → a ≡ true → b ≡ true → c ≡ (a && (not b || c))
followed a b c h k = grind arith

-- digits with no mark
pub number-alone : (text : List ℕ) (n : ℕ) → n ≡ position_or_len is_mark text → n ≡ length text
    → are_digits (take n text) ≡ true → true ≡ is_number text
number-alone text n e all h = grind (arith, alone, marked, le-ltb)

-- digits, a mark and what follows it
pub number-followed : (text : List ℕ) (n : ℕ) → n ≡ position_or_len is_mark text → (n ≡ length text → ⊥)
    → are_digits (take n text) ≡ true → are_digits (take (length text - (n + 1)) (drop (n + 1) text)) ≡ is_number text
number-followed text n e apart h = grind (arith, prefix_len-le-length, take_rest, followed, marked, lt-ltb)

pub is-some-then : {A : Type 0} (b : Bool) (x : A) → is_some (then_some b x) ≡ b
is-some-then true x = refl
is-some-then false x = refl
