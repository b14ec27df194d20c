-- The words and the counts of projects, ballot by ballot.
use Rattle.std.proofs.Common.{◌≡◌, ◌≢◌, ℕ, ◌+◌, ◌-◌, ◌<◌, ◌≤◌, max, Bool, true, false, cond, List, length, get_or, set, take, refl, sym, ◌∙◌, ap, inl, inr, arith, get_or-set_other, get_or-set_same}
use Rattle.std.specs.Prelude.{◌&&◌, ◌||◌, ◌==◌, filter}
use Rattle.std.specs.Int.{bit_at}
use Rattle.std.specs.Int.RustNames.{bit_or}
use Rattle.std.specs.List.{range_with_len}
use Rattle.std.proofs.lemmas.Bool.{cases_Bool, cases_eq, cases_lt}
use Rattle.std.proofs.lemmas.List.{get_or_past, length-append, length-set}
use Rattle.std.proofs.lemmas.List.Elements.{filter-append}
use Rattle.std.proofs.lemmas.List.Folds.{list_any-append}
use Rattle.std.proofs.lemmas.List.FromFn.{length-range_with_len}
use Rattle.std.proofs.lemmas.List.Sums.{count_by-le-length, length-filter}
use Rattle.std.proofs.lemmas.Nat.Bits.{bit_at-zero, bit_at_or}
use Rattle.pb_election.specs.Instance.{Instance, IsSet, approves, ballot_of, projects}
use Rattle.pb_election.specs.Outcome.{has}
use Rattle.pb_cohesion.proofs.Firsts.{range-next}
use Rattle.pb_cohesion.proofs.Fronts.{among-fresh, among-hit, among-miss}
use Rattle.pb_price.proofs.Ballots.{high, low}
use Rattle.pb_price.specs.Inside.Reached.{AreCounted, AreReached, AreSupporters, GetWord, IsWordOf, among, bit_if, funded_with_bit, share_a_voter}

-- the words of projects with one more project of a ballot
either-bit : (old x k word : ℕ) (b : Bool) → x ≡ max old (cond b k 0) → word ≡ max x k → word ≡ max old k
either-bit old x k word true h is = omega arith
either-bit old x k word false h is = omega arith

pub word-added : (word : ℕ) (old xs b : List ℕ) (i : ℕ) → IsSet 1 (length old) b → i < length b
    → GetWord word old xs (take i b)
    → GetWord word old (set xs (get_or b i 0 - 1) (bit_or (get_or xs (get_or b i 0 - 1) 0) word)) (take (i + 1) b)
word-added word old xs b i s within h =
    let p : ℕ = get_or b i 0 - 1 in
    let from : 1 ≤ get_or b i 0 = low (length old) b i s within in
    record {
      as_many = length-set xs p (bit_or (get_or xs p 0) word) ∙ h.as_many;
      each = λ c k few. elim (cases_eq c p) [
        | inl e ↦
            let in_xs : p < length xs = omega (arith, h.as_many) in
            let here : get_or b i 0 ≡ c + 1 = omega arith in
            ap (λ q. bit_at (get_or (set xs p (bit_or (get_or xs p 0) word)) q 0) k) e
            ∙ ap (λ x. bit_at x k) (get_or-set_same xs p (bit_or (get_or xs p 0) word) 0 in_xs)
            ∙ either-bit (bit_at (get_or old c 0) k) (bit_at (get_or xs p 0) k) (bit_at word k) _
            (among (take i b) (c + 1)) (ap (λ q. bit_at (get_or xs q 0) k) (sym e) ∙ h.each c k few)
            (bit_at_or (get_or xs p 0) word k)
            ∙ sym
            (ap (λ z. max (bit_at (get_or old c 0) k) (cond z (bit_at word k) 0)) (among-hit b i (c + 1) within here))
        | inr ne ↦
            let other : get_or b i 0 ≢ c + 1 = λ e. ne (omega arith) in
            ap (λ x. bit_at x k) (get_or-set_other xs p c (bit_or (get_or xs p 0) word) 0 ne) ∙ h.each c k few
            ∙ sym
            (ap (λ z. max (bit_at (get_or old c 0) k) (cond z (bit_at word k) 0)) (among-miss b i (c + 1) within other))
      ];
    }

-- one more voter
one-more : (n : ℕ) (e : Instance) (c d : ℕ)
    → share_a_voter (n + 1) e c d ≡ (share_a_voter n e c d || (approves e (n + 1) c && approves e (n + 1) d))
one-more n e c d = grind (arith, range-next, list_any-append)

with-voter : (a b d : Bool) (old word k : ℕ) → old ≡ bit_if a → word ≡ bit_if d → k ≡ max old (cond b word 0)
    → k ≡ bit_if (a || (b && d))
with-voter true true true old word k h i j = omega arith
with-voter true true false old word k h i j = omega arith
with-voter true false d old word k h i j = omega arith
with-voter false true true old word k h i j = omega arith
with-voter false true false old word k h i j = omega arith
with-voter false false d old word k h i j = omega arith

pub reached-next : (e : Instance) (from n word : ℕ) (words new : List ℕ) → AreReached n e from words
    → IsWordOf (ballot_of e (n + 1)) from word → GetWord word words new (ballot_of e (n + 1))
    → AreReached (n + 1) e from new
reached-next e from n word words new h is got = record {
  as_many = got.as_many ∙ h.as_many;
  each = λ c k few small. with-voter (share_a_voter n e (c + 1) (from + k + 1)) (approves e (n + 1) (c + 1))
      (approves e (n + 1) (from + k + 1)) (bit_at (get_or words c 0) k) (bit_at word k) (bit_at (get_or new c 0) k)
      (h.each c k few small) (is k small) (got.each c k (omega (arith, h.as_many)))
      ∙ sym (ap bit_if (one-more n e (c + 1) (from + k + 1)));
}

-- a voter whose ballot has no project of the block
without-voter : (a b d : Bool) → bit_if d ≡ 0 → bit_if a ≡ bit_if (a || (b && d))
without-voter true b true h = absurd (omega arith)
without-voter true b false h = refl
without-voter false b true h = absurd (omega arith)
without-voter false true false h = refl
without-voter false false false h = refl

pub reached-past : (e : Instance) (from n word : ℕ) (words : List ℕ) → AreReached n e from words
    → IsWordOf (ballot_of e (n + 1)) from word → word ≡ 0 → AreReached (n + 1) e from words
reached-past e from n word words h is none = record {
  as_many = h.as_many;
  each = λ c k few small. h.each c k few small
      ∙ without-voter (share_a_voter n e (c + 1) (from + k + 1)) (approves e (n + 1) (c + 1))
      (approves e (n + 1) (from + k + 1)) (sym (is k small) ∙ ap (λ x. bit_at x k) none ∙ bit_at-zero k)
      ∙ sym (ap bit_if (one-more n e (c + 1) (from + k + 1)));
}

-- the counts with one more project of a ballot
pub count-added : (old xs b : List ℕ) (i : ℕ) → IsSet 1 (length old) b → i < length b → AreCounted old xs (take i b)
    → AreCounted old (set xs (get_or b i 0 - 1) (get_or xs (get_or b i 0 - 1) 0 + 1)) (take (i + 1) b)
count-added old xs b i s within h =
    let p : ℕ = get_or b i 0 - 1 in
    let from : 1 ≤ get_or b i 0 = low (length old) b i s within in
    record {
      as_many = length-set xs p (get_or xs p 0 + 1) ∙ h.as_many;
      each = λ c few. elim (cases_eq c p) [
        | inl e ↦
            let in_xs : p < length xs = omega (arith, h.as_many) in
            let here : get_or b i 0 ≡ c + 1 = omega arith in
            let fresh : among (take i b) (c + 1) ≡ false =
            ap (among (take i b)) (sym here) ∙ among-fresh b i 1 (length old) s within in
            ap (λ q. get_or (set xs p (get_or xs p 0 + 1)) q 0) e ∙ get_or-set_same xs p (get_or xs p 0 + 1) 0 in_xs
            ∙ ap (λ q. get_or xs q 0 + 1) (sym e) ∙ ap (λ x. x + 1) (h.each c few)
            ∙ ap (λ z. get_or old c 0 + bit_if z + 1) fresh ∙ (omega arith)
            ∙ sym (ap (λ z. get_or old c 0 + bit_if z) (among-hit b i (c + 1) within here))
        | inr ne ↦
            let other : get_or b i 0 ≢ c + 1 = λ e. ne (omega arith) in
            get_or-set_other xs p c (get_or xs p 0 + 1) 0 ne ∙ h.each c few
            ∙ sym (ap (λ z. get_or old c 0 + bit_if z) (among-miss b i (c + 1) within other))
      ];
    }

-- what comes next was not counted yet
pub count-fits : (old xs b : List ℕ) (i : ℕ) → IsSet 1 (length old) b → i < length b → AreCounted old xs (take i b)
    → get_or xs (get_or b i 0 - 1) 0 ≡ get_or old (get_or b i 0 - 1) 0
count-fits old xs b i s within h =
    let from : 1 ≤ get_or b i 0 = low (length old) b i s within in
    let to : get_or b i 0 ≤ length old = high (length old) b i s within in
    let is : get_or b i 0 - 1 + 1 ≡ get_or b i 0 = omega arith in
    h.each (get_or b i 0 - 1) (omega arith)
    ∙ ap (λ z. get_or old (get_or b i 0 - 1) 0 + bit_if z)
    (ap (among (take i b)) is ∙ among-fresh b i 1 (length old) s within)
    ∙ (omega arith)

abbrev supporters_to : ℕ → Instance → ℕ → ℕ
supporters_to n e c = length (filter (λ i. approves e i c) (range_with_len 1 n))

one-counted : (n : ℕ) (e : Instance) (c : ℕ) → supporters_to (n + 1) e c
    ≡ supporters_to n e c + bit_if (approves e (n + 1) c)
one-counted n e c = grind (arith, range-next, filter-append, length-append, cases_Bool)

pub counted-next : (e : Instance) (n : ℕ) (counts new : List ℕ) → AreSupporters n e counts
    → AreCounted counts new (ballot_of e (n + 1)) → AreSupporters (n + 1) e new
counted-next e n counts new h got = record {
  as_many = got.as_many ∙ h.as_many;
  each = λ c few. got.each c (omega (arith, h.as_many))
      ∙ ap (λ x. x + bit_if (approves e (n + 1) (c + 1))) (h.each c few) ∙ sym (one-counted n e (c + 1));
}

-- fewer voters approve a project than there are
pub counts-small : (e : Instance) (n m : ℕ) (counts : List ℕ) → AreSupporters n e counts → n ≤ m → (c : ℕ)
    → get_or counts c 0 ≤ m
counts-small e n m counts h few c = elim (cases_lt c (projects e)) [
  | inl within ↦
      let is : get_or counts c 0 ≡ supporters_to n e (c + 1) = h.each c within in
      omega (arith, length-filter (λ i. approves e i (c + 1)) (range_with_len 1 n), count_by-le-length (λ i. approves e i (c + 1)) (range_with_len 1 n), length-range_with_len 1 n)
  | inr out ↦
      let is : get_or counts c 0 ≡ 0 = get_or_past counts c 0 (omega (arith, h.as_many)) in
      omega arith
]

-- whether the next project is a funded one whose word has a bit
pub bit-of-next : (w : List Bool) (words : List ℕ) (place k : ℕ) (a b : Bool) → has w (k + 1) ≡ a
    → (bit_at (get_or words k 0) place == 1) ≡ b → funded_with_bit w words place (k + 1) ≡ (a && b)
bit-of-next w words place k a b is bit =
    let at : k + 1 - 1 ≡ k = omega arith in
    ap (λ p. has w (k + 1) && (bit_at (get_or words p 0) place == 1)) at
    ∙ ap (λ x. x && (bit_at (get_or words k 0) place == 1)) is ∙ ap (λ x. a && x) bit

-- the same of what is equal
pub counted-as : (xs xs' ys b b' : List ℕ) → xs' ≡ xs → b' ≡ b → AreCounted xs' ys b' → AreCounted xs ys b
counted-as xs xs' ys b b' p q h = grind arith

pub got-as : (word : ℕ) (xs xs' ys b b' : List ℕ) → xs' ≡ xs → b' ≡ b → GetWord word xs' ys b' → GetWord word xs ys b
got-as word xs xs' ys b b' p q h = grind arith

pub word-as : (b b' : List ℕ) (from word : ℕ) → b' ≡ b → IsWordOf b' from word → IsWordOf b from word
word-as b b' from word q h = grind arith
