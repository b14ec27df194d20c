-- The whole numbers that fields state.
use Rattle.std.proofs.Common.{is_none, ◌≡◌, ◌≤◌, ◌<◌, ℕ, Bool, true, false, cond, refl, arith, Option, Some, None}
use Rattle.std.specs.Prelude.{not, nat_le, nat_lt, Result, Ok, Err, is_some}
use Rattle.std.proofs.lemmas.Bool.{le-leb, lt-leb, ltb-true}
use Rattle.std.proofs.Math.Bool.{and-false}
use Rattle.pb_money.specs.Digits.{are_digits, is_empty, number_of}
use Rattle.pb_money.specs.Whole.{whole_of}
use Rattle.pb_money.specs.declared.whole.WholeFault.{WholeFault}
use Rattle.pb_money.specs.declared.whole.WholeFault.TheVariants as whole
use Rattle.pb_records.specs.Records.{Field}
use Rattle.pb_election.specs.Instance.{Instance}
use Rattle.pb_certificate.specs.Fields.{voter_in, whole_in, whole_within}
use Rattle.pb_certificate.specs.declared.refusal.CertFault.TheVariants as fault

-- what `read_whole` answers
answer : Bool → Bool → Bool → ℕ → Result ℕ WholeFault
answer empty digits large n =
    cond empty (Err whole.Empty) (cond (not digits) (Err whole.NotDigits) (cond large (Err whole.TooLarge) (Ok n)))

pub number-read : (most n : ℕ) (f : Field) → Ok n ≡ whole_of most f → (whole_in f ≡ Some n) × (n ≤ most)
unfolding whole_of whole_in answer
number-read most n f h = grind arith

pub large-read : (most : ℕ) (f : Field) → Err whole.TooLarge ≡ whole_of most f
    → (n : ℕ) × (whole_in f ≡ Some n) × (most < n)
unfolding whole_of whole_in answer
large-read most f h = by (is_empty f) (are_digits f) (nat_lt most (number_of f)) refl refl h
  where
    by : (e d l : Bool) → are_digits f ≡ d → nat_lt most (number_of f) ≡ l
        → Err whole.TooLarge ≡ answer e d l (number_of f)
        → (n : ℕ) × (cond d (Some (number_of f)) None ≡ Some n) × (most < n)
    by true d l is_d is_l k = cc
    by false false l is_d is_l k = cc
    by false true true is_d is_l k = (number_of f, refl, ltb-true most (number_of f) is_l)
    by false true false is_d is_l k = cc

-- each other fault says that the field is not in digits
pub no-number-read : (most : ℕ) (f : Field) (w : WholeFault) → Err w ≡ whole_of most f → (w ≡ whole.TooLarge → ⊥)
    → whole_in f ≡ None
unfolding whole_of whole_in answer
no-number-read most f w h other = grind arith

pub within-bounds : (least most n : ℕ) (f : Field) → whole_in f ≡ Some n → least ≤ n → n ≤ most
    → whole_within least most f ≡ Some n
within-bounds least most n f is low high = rw (is, le-leb least n low, le-leb n most high) refl

pub too-low : (least most n : ℕ) (f : Field) → whole_in f ≡ Some n → n < least → whole_within least most f ≡ None
too-low least most n f is low = rw (is, lt-leb least n low) refl

pub too-high : (least most n : ℕ) (f : Field) → whole_in f ≡ Some n → most < n → whole_within least most f ≡ None
too-high least most n f is high = rw (is, lt-leb n most high, and-false (nat_le least n)) refl

pub no-number : (least most : ℕ) (f : Field) → whole_in f ≡ None → whole_within least most f ≡ None
no-number least most f is = rw is refl

-- no number up to `most` was read
pub none-read : (least most : ℕ) (f : Field) (w : WholeFault) → Err w ≡ whole_of most f
    → whole_within least most f ≡ None
none-read least most f w read = grind (arith, no-number, no-number-read, large-read, too-high)

-- a call of `read_whole`, at the values that are known of its arguments
pub read-of : (result known : Result ℕ WholeFault) (most most' : ℕ) (text text' : Field) → result ≡ known
    → result ≡ whole_of most text → most ≡ most' → text ≡ text' → known ≡ whole_of most' text'
read-of result known most most' text text' is read same same_text = grind arith

-- what a voter's field gives
pub voter-read : (most n : ℕ) (f : Field) → Ok n ≡ whole_of most f → 0 < n
    → Ok (Some n) ≡ cond (is_some (whole_in f)) (Ok (whole_within 1 most f)) (Err fault.BadNumber)
voter-read most n f read some = grind (arith, number-read, le-leb)

pub voter-0-read : (most n : ℕ) (f : Field) → Ok n ≡ whole_of most f → n ≤ 0
    → Ok None ≡ cond (is_some (whole_in f)) (Ok (whole_within 1 most f)) (Err fault.BadNumber)
voter-0-read most n f read none = let number = number-read most n f read in rw (number.0, lt-leb 1 n (omega arith)) refl

pub voter-large-read : (most : ℕ) (f : Field) → Err whole.TooLarge ≡ whole_of most f
    → Ok None ≡ cond (is_some (whole_in f)) (Ok (whole_within 1 most f)) (Err fault.BadNumber)
voter-large-read most f read = grind (arith, large-read, lt-leb, and-false)

pub voter-not-read : (most : ℕ) (f : Field) (w : WholeFault) → Err w ≡ whole_of most f → (w ≡ whole.TooLarge → ⊥)
    → Err fault.BadNumber ≡ cond (is_some (whole_in f)) (Ok (whole_within 1 most f)) (Err fault.BadNumber)
voter-not-read most f w read other = rw (no-number-read most f w read other) refl

-- what a voter's field gave
pub voter-was : (o : Option ℕ) (f : Field) (e : Instance) (number : Option ℕ)
    → Ok o ≡ cond (is_some number) (Ok (voter_in e f)) (Err fault.BadNumber) → o ≡ voter_in e f
voter-was o f e (Some n) h = cc
voter-was o f e None h = cc

-- and it is in digits
pub digits-were : (o : Option ℕ) (f : Field) (e : Instance) (number : Option ℕ)
    → Ok o ≡ cond (is_some number) (Ok (voter_in e f)) (Err fault.BadNumber) → is_none number ≡ false
digits-were o f e (Some n) h = refl
digits-were o f e None h = cc

-- a number within bounds is what the text states
pub whole-is : (least most : ℕ) (f : Field) (n : ℕ) → whole_within least most f ≡ Some n → whole_in f ≡ Some n
whole-is least most f n h = grind arith
