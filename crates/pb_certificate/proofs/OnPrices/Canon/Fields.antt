-- What the fields of the records of the canonical text state.
use Rattle.std.proofs.Common.{◌≡◌, ◌∙◌, ◌≤◌, ◌<◌, ◌+◌, ◌-◌, ◌*◌, ◌^◌, ℕ, zero, suc, true, false, List, [], ◌∷◌, length, refl, ap, arith, Some, get_or}
use Rattle.std.specs.Prelude.{decimal}
use Rattle.std.specs.List.{AllByRecursion, IsDistinct, fold, position_from}
use Rattle.std.specs.Str.{all_ascii_digits, byte, bytes_eq, is_utf8}
use Rattle.std.specs.Str.Parse.{AllDigits}
use Rattle.std.specs.Int.{IsInRange}
use Rattle.std.proofs.lemmas.Bool.Decides.{nat_tests}
use Rattle.std.proofs.lemmas.Fmt.{IsAscii-decimal_wide, decimal_is_IsNumeral_wide}
use Rattle.std.proofs.lemmas.Slice.Eq.{bytes_eq-Decides}
use Rattle.std.proofs.lemmas.Str.{IsUtf8-from_ascii, is_utf8-from_IsUtf8}
use Rattle.std.proofs.lemmas.Str.Parse.{IsNumeralModel, digit_from_value, numerals_by_fold, tells_all_ascii_digits}
use Rattle.std.proofs.Math.Bool.{and-false}
use Rattle.pb_money.specs.Digits.{drop_back, drop_front, is_empty, number_of}
use Rattle.pb_election.specs.Instance.{Instance, IsProject, IsVoter, id_of, projects, voters}
use Rattle.pb_records.specs.Records.{Field, Rec}
use Rattle.pb_records.specs.Cells.{clean, is_blank, is_space, is_text, nonblank}
use Rattle.pb_election.specs.Text.{IsElection}
use Rattle.pb_certificate.specs.Fields.{fields, project_in, voter_in, whole_in, whole_within}
use Rattle.pb_certificate.specs.Prices.Text.{numerator_of, payment_of}
use Rattle.pb_certificate.proofs.Numbers.{within-bounds}
use Rattle.pb_certificate.proofs.OnPrices.Canon.StatedBack.{payment_at}
use Rattle.pb_certificate.proofs.OnPrices.Canon.Written.{IsPayment, all-at, id-at, row_of}
use Rattle.pb_records.proofs.Each.{all-weaker}

-- Numerals.

full-empty : (f : Field) → 0 < length f → is_empty f ≡ false
full-empty [] h = absurd (omega arith)
full-empty (b ∷ bs) h = refl

pub decimal-some : (n : ℕ) → n < 10 ^ 64 → is_empty (decimal n) ≡ false
decimal-some n h = full-empty (decimal n) (decimal_is_IsNumeral_wide n h).0.0

by_digits : IsNumeralModel (λ ds. all_ascii_digits ds ≡ true) number_of
by_digits = numerals_by_fold (λ ds. all_ascii_digits ds ≡ true) tells_all_ascii_digits
    (λ n ds. fold (λ m d. m * 10 + (d - byte "0")) n ds) (record { empty = λ n. refl; more = λ n c cs k. refl })

number-is : (n : ℕ) → n < 10 ^ 64 → whole_in (decimal n) ≡ Some n
unfolding whole_in
number-is n h =
    let d = decimal_is_IsNumeral_wide n h in
    let digits : all_ascii_digits (decimal n) ≡ true = by_digits.from (decimal n) d.0.1 in
    let value : number_of (decimal n) ≡ n = by_digits.same (decimal n) d.0.1 ∙ d.1 in
    rw (decimal-some n h, digits) (ap Some value)

pub number-within : (least most n : ℕ) → least ≤ n → n ≤ most → n < 10 ^ 64
    → whole_within least most (decimal n) ≡ Some n
number-within least most n low high h = within-bounds least most n (decimal n) (number-is n h) low high

digit-no-space : (c : ℕ) → IsInRange 48 57 c → is_space c ≡ false
digit-no-space c h = grind (arith, nat_tests)

digits-back : (f : Field) → AllDigits 10 f → drop_back is_space f ≡ f
unfolding drop_back
digits-back [] h = refl
digits-back (b ∷ bs) h = rw (digit-no-space b (digit_from_value b h.0)) (ap (λ (t : Field). b ∷ t) (digits-back bs h.1))

digits-front : (f : Field) → AllDigits 10 f → drop_front is_space f ≡ f
unfolding drop_front
digits-front [] h = refl
digits-front (b ∷ bs) h = rw (digit-no-space b (digit_from_value b h.0)) refl

pub decimal-clean : (n : ℕ) → n < 10 ^ 64 → clean (decimal n) ≡ decimal n
decimal-clean n h =
    let digits = (decimal_is_IsNumeral_wide n h).0.1 in
    ap (drop_back is_space) (digits-front (decimal n) digits) ∙ digits-back (decimal n) digits

pub decimal-text : (n : ℕ) → n < 10 ^ 64 → is_utf8 (decimal n) ≡ true
decimal-text n h = is_utf8-from_IsUtf8 (decimal n) (IsUtf8-from_ascii (decimal n) (IsAscii-decimal_wide n h))

-- Records.

pub fields-two : (a b : Field) → clean a ≡ a → clean b ≡ b → is_empty b ≡ false → fields (a ∷ b ∷ []) ≡ a ∷ b ∷ []
fields-two a b ca cb s = rw (ca, cb, s, and-false (is_empty a)) refl

pub fields-three : (a b c : Field) → clean a ≡ a → clean b ≡ b → clean c ≡ c → is_empty c ≡ false
    → fields (a ∷ b ∷ c ∷ []) ≡ a ∷ b ∷ c ∷ []
fields-three a b c ca cb cc s = rw (ca, cb, cc, s, and-false (is_empty b), and-false (is_empty a)) refl

-- a record that is text, and is not blank
pub record IsShown (r : Rec) : Type 0 where
  pub text : is_text r ≡ true
  pub some : is_blank r ≡ false

pub two-shown : (a b : Field) → is_utf8 a ≡ true → is_utf8 b ≡ true → clean a ≡ a → is_empty a ≡ false
    → IsShown (a ∷ b ∷ [])
unfolding is_text is_blank
two-shown a b ta tb ca s = record { text = rw (ta, tb) refl; some = rw (ca, s) refl }

pub three-shown : (a b c : Field) → is_utf8 a ≡ true → is_utf8 b ≡ true → is_utf8 c ≡ true → clean a ≡ a
    → is_empty a ≡ false → IsShown (a ∷ b ∷ c ∷ [])
unfolding is_text is_blank
three-shown a b c ta tb tc ca s = record { text = rw (ta, tb, tc) refl; some = rw (ca, s) refl }

pub nonblank-all : (rs : List Rec) → AllByRecursion IsShown rs → nonblank rs ≡ rs
nonblank-all [] h = refl
nonblank-all (r ∷ rs) h = rw h.0.some (ap (λ (t : List Rec). r ∷ t) (nonblank-all rs h.1))

pub text-all : (rs : List Rec) → AllByRecursion IsShown rs → AllByRecursion (λ r. is_text r ≡ true) rs
text-all rs = all-weaker IsShown (λ r. is_text r ≡ true) rs (λ r h. h.text)

-- The project of an id.

same-bytes : (x : Field) → bytes_eq x x ≡ true
same-bytes x = grind (arith, bytes_eq-Decides)

other-bytes : (x y : Field) → bytes_eq x y ≡ false → bytes_eq y x ≡ false
other-bytes x y h = grind (arith, bytes_eq-Decides)

place-at : (start : ℕ) (ids : List Field) (k : ℕ) → IsDistinct bytes_eq ids → k < length ids
    → position_from (bytes_eq (get_or ids k [])) start ids ≡ Some (start + k)
unfolding IsDistinct
place-at start [] k d h = absurd (omega arith)
place-at start (x ∷ xs) zero d h = grind (arith, same-bytes)
place-at start (x ∷ xs) (suc k) d h =
    let other : bytes_eq x (get_or xs k []) ≡ false = all-at (λ y. bytes_eq x y ≡ false) xs k [] d.0 (omega arith) in
    let e : start + 1 + k ≡ start + suc k = omega arith in
    rw (other-bytes x (get_or xs k []) other) (place-at (start + 1) xs k d.1 (omega arith) ∙ ap Some e)

project-is : (e : Instance) (j : ℕ) → IsElection e → IsProject e j → project_in e (id_of e j) ≡ Some j
project-is e j s p = grind (arith, place-at)

-- The rows.

pub row-shown : (e : Instance) (i : ℕ) (q : ℕ × ℕ) → IsElection e → i < 10 ^ 64 → IsPayment (projects e) q
    → IsShown (row_of e i q)
row-shown e i q s v h =
    three-shown (decimal i) (id_of e q.0) (decimal q.1) (decimal-text i v) (id-at e q.0 s (h.low, h.high)).text
    (decimal-text q.1 (omega arith)) (decimal-clean i v) (decimal-some i v)

pub row-states : (e : Instance) (i : ℕ) (q : ℕ × ℕ) → IsElection e → IsVoter e i → IsPayment (projects e) q
    → payment_of e (row_of e i q) ≡ Some (payment_at i q)
row-states e i q s v h =
    let small : q.1 ≤ 10 ^ 21 = h.small in
    let high : i ≤ voters e = v.1 in
    let small_voter : i < 10 ^ 64 = omega arith in
    let small_number : q.1 < 10 ^ 64 = omega arith in
    let shown = fields-three (decimal i) (id_of e q.0) (decimal q.1) (decimal-clean i small_voter)
    (id-at e q.0 s (h.low, h.high)).clean (decimal-clean q.1 small_number) (decimal-some q.1 small_number) in
    let voter : voter_in e (decimal i) ≡ Some i = number-within 1 (voters e) i v.0 v.1 small_voter in
    let project : project_in e (id_of e q.0) ≡ Some q.0 = project-is e q.0 s (h.low, h.high) in
    let number : numerator_of (decimal q.1) ≡ Some q.1 =
    number-within 0 (10 ^ 21) q.1 (omega arith) small small_number in
    rw (shown, voter, project, number) refl
