-- The number of a character is written in ASCII.
use Rattle.std.proofs.Common.{◌≡◌, ◌<◌, ◌^◌, ℕ, zero, suc, List, [], ◌∷◌, ◌++◌, arith, codes, encode_utf8_all, false}
use Rattle.std.specs.Char.{digit_value}
use Rattle.std.specs.Fmt.{digits}
use Rattle.std.specs.Str.{IsAscii}
use Rattle.std.specs.Str.Parse.{AllDigits}
use Rattle.std.proofs.lemmas.Bool.Decides.{nat_tests}
use Rattle.std.proofs.lemmas.Fmt.{digits_is_IsNumeral}
use Rattle.std.proofs.lemmas.Str.{IsAscii-append, encodes-IsAscii}
use Rattle.pb_visible.specs.Visible.{number}

pub digit_small : (c : ℕ) → digit_value c < 16 → c < 128
digit_small c h = grind (arith, nat_tests)

ascii_cons : (d : ℕ) (ds : List ℕ) → d < 128 → IsAscii ds → IsAscii (d ∷ ds)
ascii_cons d ds h hs zero = h
ascii_cons d ds h hs (suc i) = hs i

ascii_nil : IsAscii []
ascii_nil i = omega arith

ascii_digits : (ds : List ℕ) → AllDigits 16 ds → IsAscii ds
ascii_digits [] h = ascii_nil
ascii_digits (d ∷ ds) h = ascii_cons d ds (digit_small d h.0) (ascii_digits ds h.1)

ascii_front : IsAscii (codes "\\u{")
ascii_front =
    ascii_cons 92 (117 ∷ 123 ∷ []) (omega arith) (ascii_cons 117 (123 ∷ []) (omega arith)
    (ascii_cons 123 [] (omega arith) ascii_nil))

ascii_back : IsAscii (codes "}")
ascii_back = ascii_cons 125 [] (omega arith) ascii_nil

-- a character has at most 32 bits
pub small_enough : (c : ℕ) → c < 2 ^ 32 → c < 16 ^ 64
small_enough c h = omega arith

pub digits_are : (c : ℕ) → c < 2 ^ 32 → AllDigits 16 (digits 16 false c)
digits_are c h = (digits_is_IsNumeral 16 false (omega arith) (omega arith) c (small_enough c h)).0.1

ascii_number : (c : ℕ) → c < 2 ^ 32 → IsAscii (number c)
unfolding number
ascii_number c h =
    IsAscii-append (codes "\\u{") (digits 16 false c ++ codes "}") ascii_front
    (IsAscii-append (digits 16 false c) (codes "}") (ascii_digits (digits 16 false c) (digits_are c h)) ascii_back)

pub encodes-number : (c : ℕ) → c < 2 ^ 32 → encode_utf8_all (number c) ≡ number c
encodes-number c h = encodes-IsAscii (number c) (ascii_number c h)
