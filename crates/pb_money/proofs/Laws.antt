-- A text is money exactly where `money_of` gives its amount.
use Rattle.std.proofs.Common.{◌≡◌, ◌≤◌, ◌∙◌, ℕ, List, [], ◌∷◌, Bool, true, false, refl, length, cond}
use Rattle.std.proofs.lemmas.Bool.{le-ltb, ltb-false, not-false}
use Rattle.std.specs.List.{after_first, before_first}
use Rattle.std.specs.Prelude.{Ok, Err, Result, nat_lt, not}
use Rattle.pb_money.specs.Digits.{is_empty}
use Rattle.pb_money.specs.Money.{MoneyText, fraction, is_mark, is_number, millionths, money_of, most_money}
use Rattle.pb_money.specs.declared.money.MoneyFault.{MoneyFault}
use Rattle.pb_money.specs.declared.money.MoneyFault.TheVariants as fault
use Rattle.pb_money.proofs.Parts.{number-parts, tested}

-- what an amount is worth
pub money-value : (text : List ℕ) (v : ℕ) → MoneyText text v → v ≡ millionths text
unfolding millionths
money-value text v m =
    let t = tested text m.whole m.behind m.number in
    rw (t.before, t.after) m.value

-- an amount by the tests
pub money-tested : (text : List ℕ) (v : ℕ) → is_number text ≡ true → length (fraction text) ≤ 6 → v ≡ millionths text
    → v ≤ most_money → MoneyText text v
unfolding millionths
money-tested text v number fine value small =
    record {
      whole = before_first is_mark text;
      behind = after_first is_mark text;
      number = number-parts text number;
      fine = fine;
      value = value;
      small = small;
    }

answer : (text : List ℕ) (v : ℕ) → is_number text ≡ true → length (fraction text) ≤ 6 → v ≡ millionths text
    → v ≤ most_money → money_of text ≡ Ok v
unfolding money_of
answer [] v n f e s = cc n
answer (b ∷ bs) v n f e s =
    rw (
      n,
      le-ltb 6 (length (fraction (b ∷ bs))) f,
      le-ltb most_money (millionths (b ∷ bs)) (rw (← e) s),
      e,
    ) refl

pub money-is : (text : List ℕ) (v : ℕ) → MoneyText text v → money_of text ≡ Ok v
money-is text v m =
    let t = tested text m.whole m.behind m.number in
    answer text v t.number (rw t.after m.fine) (money-value text v m) m.small

-- what is answered where the text is an amount
pub answers-only : (text : List ℕ) (r : Result ℕ MoneyFault) → r ≡ money_of text → (v : ℕ) → MoneyText text v → r ≡ Ok v
answers-only text r e v m = e ∙ money-is text v m

-- a choice that gave Ok did not fail
chosen : (b : Bool) (f : MoneyFault) (r : Result ℕ MoneyFault) (v : ℕ) → cond b (Err f) r ≡ Ok v
    → (b ≡ false) × (r ≡ Ok v)
chosen true f r v h = cc h
chosen false f r v h = (refl, h)

pub is-money : (text : List ℕ) (v : ℕ) → money_of text ≡ Ok v → MoneyText text v
unfolding money_of
is-money text v h =
    let large : Result ℕ MoneyFault =
    cond (nat_lt most_money (millionths text)) (Err fault.TooLarge) (Ok (millionths text)) in
    let fine : Result ℕ MoneyFault = cond (nat_lt 6 (length (fraction text))) (Err fault.TooFine) large in
    let number : Result ℕ MoneyFault = cond (not (is_number text)) (Err fault.NotNumber) fine in
    let a = chosen (is_empty text) fault.Empty number v h in
    let b = chosen (not (is_number text)) fault.NotNumber fine v a.1 in
    let c = chosen (nat_lt 6 (length (fraction text))) fault.TooFine large v b.1 in
    let d = chosen (nat_lt most_money (millionths text)) fault.TooLarge (Ok (millionths text)) v c.1 in
    let e : v ≡ millionths text = cc d.1 in
    money-tested text v (not-false (is_number text) b.0) (ltb-false 6 (length (fraction text)) c.0) e
    (rw e (ltb-false most_money (millionths text) d.0))
