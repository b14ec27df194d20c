-- Rising lists of numbers, by what they hold.
use Rattle.std.proofs.Common.{◌≡◌, ◌≢◌, ◌∙◌, ◌<◌, ◌≤◌, ◌+◌, ℕ, suc, List, [], ◌∷◌, refl, sym, ap, arith, add-one, inl, inr, Bool, true, false}
use Rattle.std.specs.Prelude.{nat_lt, nat_eq, ◌==◌, ◌||◌, cond, filter, if◌then◌else◌, map, Some}
use Rattle.std.specs.List.{enumerate_from, list_any, position_from, IsDistinct, AllByRecursion}
use Rattle.std.specs.List.Sorted.{IsStrictlyIncreasing}
use Rattle.std.specs.Str.{bytes_eq}
use Rattle.std.proofs.lemmas.Bool.{cases_Bool}
use Rattle.std.proofs.lemmas.Bool.Decides.{nat_tests}
use Rattle.std.proofs.lemmas.Cmp.{nat_list_eq_equiv}
use Rattle.std.specs.Prelude.{IsPermutation, IsSorted}
use Rattle.std.specs.Ordering.{nat_cmp}
use Rattle.std.specs.List.{dedup}
use Rattle.std.specs.Cmp.{nat_eq_equiv}
use Rattle.std.proofs.lemmas.Bool.{false_from_ne_true, true≢false}
use Rattle.std.proofs.lemmas.List.Kept.{Contains-dedup_nat, Contains-from_dedup}
use Rattle.std.proofs.lemmas.List.Sorted.{list_any-IsPermutation}
use Rattle.std.proofs.lemmas.Map.Keys.{IsStrictlyIncreasing-dedup}
use Rattle.std.proofs.lemmas.Map.Views.{Contains-from_any, list_any-from_Contains}
use Rattle.std.proofs.Math.Bool.{or_self_left}
use Rattle.pb_records.specs.Records.{Field}
use Rattle.pb_election.specs.Names.{is_among}
use Rattle.pb_election.specs.Inside.Ids.{position_in}
use Rattle.pb_election.specs.Rows.{positions_of}
use Rattle.pb_election.proofs.Sets.{is-itself}
use Rattle.pb_election.proofs.VoteLemmas.{some-is, some-on}
use Rattle.pb_records.proofs.Each.{all-weaker}

-- whether a list holds a number
abbrev pub has : List ℕ → ℕ → Bool
has xs j = list_any (nat_eq j) xs

-- the numbers rise from n on
abbrev pub Above : ℕ → List ℕ → Type 0
Above n [] = Unit {0}
Above n (x ∷ xs) = (n ≤ x) × Above (x + 1) xs

above-less : (n m : ℕ) (xs : List ℕ) → n ≤ m → Above m xs → Above n xs
above-less n m [] h a = tt
above-less n m (x ∷ xs) h a = (omega (arith, a.0), a.1)

no-less : (n : ℕ) (xs : List ℕ) (j : ℕ) → Above n xs → j < n → has xs j ≡ false
no-less n [] j a h = refl
no-less n (x ∷ xs) j a h =
    let e : (j == x) ≡ false = grind (arith, nat_tests, a.0) in
    rw e (no-less (x + 1) xs j a.1 (omega (arith, a.0)))

-- rising lists that hold the same numbers are one
unique : (n : ℕ) (xs ys : List ℕ) → Above n xs → Above n ys → ((j : ℕ) → has xs j ≡ has ys j) → xs ≡ ys
unique n [] [] a b h = refl
unique n [] (y ∷ ys) a b h =
    let e : false ≡ true = h y ∙ rw (is-itself y) refl in
    cc e
unique n (x ∷ xs) [] a b h =
    let e : true ≡ false = sym (rw (is-itself x) refl) ∙ h x in
    cc e
unique n (x ∷ xs) (y ∷ ys) a b h =
    let f = unique (x + 1) xs ys in
    elim (cases_Bool (x == y)) [
      | inl e ↦
          let s : x ≡ y = grind (arith, nat_tests) in
          let both : Above (x + 1) ys = rw s b.1 in
          cc (s, f a.1 both (λ j. rest j s both))
      | inr e ↦
          let ne : x ≢ y = grind (arith, nat_tests) in
          absurd (apart ne)
    ]
  where
    rest : (j : ℕ) → x ≡ y → Above (x + 1) ys → has xs j ≡ has ys j
    rest j s both =
        elim (cases_Bool (j == x)) [
          | inl e ↦
              let q : j ≡ x = grind (arith, nat_tests) in
              no-less (x + 1) xs j a.1 (omega arith) ∙ sym (no-less (x + 1) ys j both (omega arith))
          | inr e ↦
              let k : (j == y) ≡ false = rw (← s) e in
              rw (e, k) at (h j)
        ]

    apart : x ≢ y → ⊥
    apart ne = elim (cases_Bool (nat_lt x y)) [
      | inl l ↦
          let less : x < y = grind (arith, nat_tests) in
          let q : (x == y) ≡ false = grind (arith, nat_tests) in
          let z : true ≡ false = sym (rw (is-itself x) refl) ∙ h x
          ∙ rw (q, no-less (y + 1) ys x b.1 (omega arith)) refl in
          cc z
      | inr l ↦
          let less : y < x = grind (arith, nat_tests) in
          let q : (y == x) ≡ false = grind (arith, nat_tests) in
          let z : true ≡ false = sym (rw (is-itself y) refl) ∙ sym (h y)
          ∙ rw (q, no-less (x + 1) xs y a.1 (omega arith)) refl in
          cc z
    ]

-- the numbers of a rising list, by its places
rises : (x : ℕ) (xs : List ℕ) → IsStrictlyIncreasing (x ∷ xs) → Above (x + 1) xs
rises x [] h = tt
rises x (y ∷ ys) h =
    let first : x < y = h 0 (omega arith) in
    (omega arith, rises y ys (λ k l. rw (add-one k) (rw (add-one k, add-one (suc k)) at (h (k + 1) (omega arith)))))

rising : (xs : List ℕ) → IsStrictlyIncreasing xs → Above 0 xs
rising [] h = tt
rising (x ∷ xs) h = (omega arith, rises x xs h)

-- ---- the positions of the ids that are named

-- those from n on, by recursion
chosen_from : ℕ → List Field → List Field → List ℕ
chosen_from n [] names = []
chosen_from n (id ∷ ids) names = if is_among names id then n ∷ chosen_from (n + 1) ids names
    else chosen_from (n + 1) ids names

chosen-is : (n : ℕ) (ids names : List Field)
    → map (λ p. p.0) (filter (λ p. is_among names p.1) (enumerate_from n ids)) ≡ chosen_from n ids names
unfolding chosen_from
chosen-is n [] names = refl
chosen-is n (id ∷ ids) names = by (is_among names id) (chosen-is (n + 1) ids names)
  where
    rest : List (ℕ × Field)
    rest = filter (λ p. is_among names p.1) (enumerate_from (n + 1) ids)

    by : (t : Bool) → map (λ p. p.0) rest ≡ chosen_from (n + 1) ids names
        → map (λ p. p.0) (cond t ((n, id) ∷ rest) rest)
        ≡ (if t then n ∷ chosen_from (n + 1) ids names else chosen_from (n + 1) ids names)
    by true e = ap (λ l. n ∷ l) e
    by false e = e

positions-are : (names ids : List Field) → positions_of names ids ≡ chosen_from 1 ids names
unfolding positions_of
positions-are names ids = chosen-is 1 ids names

is-same : (a b : Field) → bytes_eq a b ≡ bytes_eq b a
is-same a b = nat_list_eq_equiv.symm a b

chosen-above : (n : ℕ) (ids names : List Field) → Above n (chosen_from n ids names)
unfolding chosen_from
chosen-above n [] names = tt
chosen-above n (id ∷ ids) names = by (is_among names id) (chosen-above (n + 1) ids names)
  where
    by : (t : Bool) → Above (n + 1) (chosen_from (n + 1) ids names)
        → Above n (if t then n ∷ chosen_from (n + 1) ids names else chosen_from (n + 1) ids names)
    by true a = (omega arith, a)
    by false a = above-less n (n + 1) (chosen_from (n + 1) ids names) (omega arith) a

chosen-none : (n : ℕ) (ids : List Field) → chosen_from n ids [] ≡ []
unfolding chosen_from
chosen-none n [] = refl
chosen-none n (id ∷ ids) = chosen-none (n + 1) ids

-- a name that is no id of these changes nothing
chosen-other : (n : ℕ) (ids names : List Field) (name : Field) → AllByRecursion (λ id. bytes_eq name id ≡ false) ids
    → chosen_from n ids (name ∷ names) ≡ chosen_from n ids names
unfolding chosen_from
chosen-other n [] names name h = refl
chosen-other n (id ∷ ids) names name h = rw (is-same id name, h.0, chosen-other (n + 1) ids names name h.1) refl

swap : (a b c : Bool) → (a || (b || c)) ≡ (b || (a || c))
swap a b c = grind arith

all-same : (id name : Field) (ids : List Field) → bytes_eq name id ≡ true
    → AllByRecursion (λ k. bytes_eq id k ≡ false) ids → AllByRecursion (λ k. bytes_eq name k ≡ false) ids
all-same id name ids e = grind (arith, all-weaker, nat_list_eq_equiv)

-- one more name adds its position
chosen-more : (n : ℕ) (ids names : List Field) (name : Field) (p j : ℕ) → IsDistinct bytes_eq ids
    → position_from (bytes_eq name) n ids ≡ Some p
    → has (chosen_from n ids (name ∷ names)) j ≡ ((j == p) || has (chosen_from n ids names) j)
unfolding chosen_from IsDistinct
chosen-more n [] names name p j d h = cc h
chosen-more n (id ∷ ids) names name p j d h =
    elim (cases_Bool (bytes_eq name id)) [
      | inl e ↦
          let f = is-same id name ∙ e in
          let c = chosen-other (n + 1) ids names name (all-same id name ids e d.0) in
          let q = some-is n p (bytes_eq name id) (position_from (bytes_eq name) (n + 1) ids) e h in
          rw (f, c, q) (here (is_among names id))
      | inr e ↦
          let f = is-same id name ∙ e in
          let k = some-on n p (bytes_eq name id) (position_from (bytes_eq name) (n + 1) ids) e h in
          rw f (there (is_among names id) (chosen-more (n + 1) ids names name p j d.1 k))
    ]
  where
    here : (t : Bool) → ((j == n) || has (chosen_from (n + 1) ids names) j)
        ≡ ((j == n) || has (if t then n ∷ chosen_from (n + 1) ids names else chosen_from (n + 1) ids names) j)
    here true = sym (or_self_left (j == n) (has (chosen_from (n + 1) ids names) j))
    here false = refl

    there : (t : Bool) → has (chosen_from (n + 1) ids (name ∷ names)) j
        ≡ ((j == p) || has (chosen_from (n + 1) ids names) j)
        → has (if t then n ∷ chosen_from (n + 1) ids (name ∷ names) else chosen_from (n + 1) ids (name ∷ names)) j
        ≡ ((j == p) || has (if t then n ∷ chosen_from (n + 1) ids names else chosen_from (n + 1) ids names) j)
    there true e = ap (λ b. (j == n) || b) e ∙ swap (j == n) (j == p) (has (chosen_from (n + 1) ids names) j)
    there false e = e

-- the chosen positions are those of the names
chosen-has : (ids names : List Field) (found : List ℕ) (j : ℕ) → IsDistinct bytes_eq ids
    → map Some found ≡ map (position_in ids) names → has (chosen_from 1 ids names) j ≡ has found j
chosen-has ids [] [] j d e = rw (chosen-none 1 ids) refl
chosen-has ids [] (p ∷ ps) j d e = cc e
chosen-has ids (name ∷ names) [] j d e = cc e
chosen-has ids (name ∷ names) (p ∷ ps) j d e =
    let first : position_in ids name ≡ Some p = cc e in
    let others : map Some ps ≡ map (position_in ids) names = cc e in
    chosen-more 1 ids names name p j d first ∙ ap (λ b. (j == p) || b) (chosen-has ids names ps j d others)

-- ---- after a sort and a `dedup`

dedup-has : (ys : List ℕ) (j : ℕ) → has (dedup nat_eq ys) j ≡ has ys j
dedup-has ys j =
    elim (cases_Bool (has ys j)) [
      | inl e ↦ list_any-from_Contains nat_eq_equiv j (dedup nat_eq ys)
          (Contains-dedup_nat ys j (Contains-from_any nat-same j ys e)) ∙ sym e
      | inr e ↦ false_from_ne_true (has (dedup nat_eq ys) j)
          (λ t. true≢false
          (sym
          (list_any-from_Contains nat_eq_equiv j ys
          (Contains-from_dedup nat_eq ys j (Contains-from_any nat-same j (dedup nat_eq ys) t))) ∙ e)) ∙ sym e
    ]
  where
    nat-same : (x y : ℕ) → nat_eq x y ≡ true → x ≡ y
    nat-same x y e = grind (arith, nat_tests)

-- the positions that were found, sorted and each once, are the ballot
pub ballot-is : (ids names : List Field) (found sorted ballot : List ℕ) → IsDistinct bytes_eq ids
    → map Some found ≡ map (position_in ids) names
    → IsPermutation found sorted → IsSorted nat_cmp sorted → ballot ≡ dedup nat_eq sorted
    → ballot ≡ positions_of names ids
ballot-is ids names found sorted ballot d e p s z =
    let holds : (j : ℕ) → has (dedup nat_eq sorted) j ≡ has (chosen_from 1 ids names) j =
    λ j. dedup-has sorted j ∙ sym (list_any-IsPermutation (nat_eq j) found sorted p)
    ∙ sym (chosen-has ids names found j d e) in
    z
    ∙ unique 0 (dedup nat_eq sorted) (chosen_from 1 ids names)
    (rising (dedup nat_eq sorted) (IsStrictlyIncreasing-dedup sorted s))
    (above-less 0 1 (chosen_from 1 ids names) (omega arith) (chosen-above 1 ids names)) holds
    ∙ sym (positions-are names ids)
