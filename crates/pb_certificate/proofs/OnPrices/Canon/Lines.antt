-- The text that `csv` writes of a record is its line, where no field has a control byte.
use Rattle.std.proofs.Common.{◌≡◌, ◌∙◌, ◌<◌, ◌≤◌, ◌^◌, ℕ, List, [], ◌∷◌, ◌++◌, map, refl, ap, arith, append-nil, false}
use Rattle.std.specs.Prelude.{◌==◌, ◌||◌, decimal, flat_map, if◌then◌else◌, nat_lt}
use Rattle.std.specs.List.{AllByRecursion, join_with_byte, list_any}
use Rattle.std.proofs.lemmas.Bool.{or_parts}
use Rattle.std.proofs.lemmas.Bool.Decides.{nat_tests}
use Rattle.std.specs.Str.Parse.{AllDigits}
use Rattle.std.proofs.lemmas.Fmt.{decimal_is_IsNumeral_wide}
use Rattle.csv.specs.Writing.{default_writer, escaped, field_text, fields_text, is_blank, needs_byte, row_text}
use Rattle.pb_records.specs.Records.{Field, Rec, quote_byte}
use Rattle.pb_election.specs.Rows.{is_control, is_id}
use Rattle.pb_election.specs.Text.{IsId}
use Rattle.pb_certificate.specs.Prices.Canon.{comma, in_quotes, line, written}

-- Fields with no control byte.

abbrev pub IsPlain : Field → Type 0
IsPlain f = list_any is_control f ≡ false

not-control : (b : ℕ) → is_control b ≡ false → 32 ≤ b
not-control b h = let low = (or_parts (nat_lt b 32) (b == 127) h).0 in grind (arith, nat_tests)

-- a byte that is no control byte calls for quotes where it is a comma or a quote
same-need : (b : ℕ) → 32 ≤ b → needs_byte default_writer b ≡ ((b == comma) || (b == quote_byte))
same-need b h = grind arith

same-needs : (f : Field) → IsPlain f → list_any (needs_byte default_writer) f
    ≡ list_any (λ b. (b == comma) || (b == quote_byte)) f
same-needs [] h = refl
same-needs (b ∷ bs) h = let parts = or_parts (is_control b) (list_any is_control bs) h in
    rw (same-need b (not-control b parts.0), same-needs bs parts.1) refl

-- a byte between quotes
abbrev doubled_byte : ℕ → List ℕ
doubled_byte b = if b == quote_byte then quote_byte ∷ quote_byte ∷ [] else b ∷ []

same-escaped-text : (f : Field) → escaped default_writer f ≡ flat_map doubled_byte f
unfolding escaped
same-escaped-text [] = refl
same-escaped-text (b ∷ bs) = grind (arith, same-escaped-text bs)

same-quoted : (f : Field) → 34 ∷ (escaped default_writer f ++ (34 ∷ [])) ≡ in_quotes f
same-quoted f = ap (λ (x : List ℕ). 34 ∷ (x ++ (34 ∷ []))) (same-escaped-text f)

pub field-written : (f : Field) → IsPlain f → field_text default_writer f ≡ written f
field-written f h = rw (same-needs f h, same-quoted f) refl

-- a numeral is plain, and is written as it is
digits-plain : (f : Field) → AllDigits 10 f → IsPlain f
digits-plain [] h = refl
digits-plain (b ∷ bs) h =
    let c : is_control b ≡ false = grind (arith, nat_tests) in
    rw (c, digits-plain bs h.1) refl

pub decimal-plain : (n : ℕ) → n < 10 ^ 64 → IsPlain (decimal n)
decimal-plain n h = digits-plain (decimal n) (decimal_is_IsNumeral_wide n h).0.1

pub id-plain : (id : Field) → IsId id → IsPlain id
unfolding is_id
id-plain id h = grind arith

-- Records of plain fields.

abbrev pub ArePlain : Rec → Type 0
ArePlain r = AllByRecursion IsPlain r

fields-joined : (f : Field) (fs : Rec) → ArePlain (f ∷ fs)
    → field_text default_writer f ++ fields_text default_writer fs ≡ join_with_byte comma (map written (f ∷ fs))
unfolding fields_text
fields-joined f [] h = append-nil (field_text default_writer f) ∙ field-written f h.0
fields-joined f (g ∷ fs) h =
    rw (field-written f h.0) (ap (λ (x : List ℕ). written f ++ (44 ∷ x)) (fields-joined g fs h.1))

-- a record of two fields or more
pub row-line : (f g : Field) (fs : Rec) → ArePlain (f ∷ g ∷ fs)
    → row_text default_writer (f ∷ g ∷ fs) ≡ line (f ∷ g ∷ fs)
unfolding is_blank line
row-line f g fs h = ap (λ (x : List ℕ). x ++ (10 ∷ [])) (fields-joined f (g ∷ fs) h)
