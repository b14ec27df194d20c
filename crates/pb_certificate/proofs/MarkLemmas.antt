-- The marks of the numbers that some names have.
use Rattle.std.proofs.Common.{◌≡◌, ◌≢◌, ◌≤◌, ◌<◌, ◌+◌, ◌-◌, ◌∙◌, ℕ, zero, suc, Bool, true, false, List, [], ◌∷◌, ◌++◌, length, refl, sym, ap, arith, get_or, add-one, append-nil}
use Rattle.std.specs.Prelude.{filter, map, replicate}
use Rattle.std.specs.List.{range_with_len}
use Rattle.std.proofs.Math.ListN.{set}
use Rattle.std.proofs.lemmas.List.Elements.{filter-append}
use Rattle.std.proofs.lemmas.List.FromFn.{get_or-map-range_with_len, length-map-range_with_len}
use Rattle.pb_records.proofs.Lists.{range-push, filter-same}
use Rattle.pb_election.specs.Instance.{IsSet}
use Rattle.pb_certificate.specs.Inside.Marks.{is_marked, marked, marks_of, with_mark}
use Rattle.pb_certificate.proofs.Unique.{filter-set}

-- no mark is set
unset : (a n : ℕ) → replicate n false ≡ map (λ j. false) (range_with_len a n)
unset a zero = refl
unset a (suc n) = ap (λ (ms : List Bool). false ∷ ms) (unset (a + 1) n)

pub none-marked : (n : ℕ) → replicate n false ≡ marks_of (λ j. false) n
none-marked n = unset 1 n

-- a mark is what its number's test says
pub mark-is : (f : ℕ → Bool) (n j : ℕ) → 1 ≤ j → j ≤ n → is_marked (marks_of f n) j ≡ f j
mark-is f n j low high = get_or-map-range_with_len f 1 n (j - 1) j true (omega arith) (omega arith)

-- a list over a range, changed at one place
pub set-range : {A : Type 0} (f g : ℕ → A) (n a k : ℕ) (x : A) → k < n → g (a + k) ≡ x
    → ((i : ℕ) → i ≢ a + k → g i ≡ f i) → set (map f (range_with_len a n)) k x ≡ map g (range_with_len a n)
set-range f g zero a k x within here other = absurd (omega arith)
set-range f g (suc n) a zero x within here other =
    let e : a + 0 ≡ a = omega arith in
    rw (sym (rw e at here), rest n (a + 1) (omega arith)) refl
  where
    rest : (m b : ℕ) → a < b → map g (range_with_len b m) ≡ map f (range_with_len b m)
    rest zero b l = refl
    rest (suc m) b l = rw (other b (λ e. omega arith), rest m (b + 1) (omega arith)) refl
set-range f g (suc n) a (suc k) x within here other = grind (arith, set-range f g n (a + 1) k x)

-- one more mark, where one more number passes the test
pub one-more-mark : (f g : ℕ → Bool) (n j : ℕ) → 1 ≤ j → j ≤ n → g j ≡ true → ((i : ℕ) → i ≢ j → g i ≡ f i)
    → with_mark (marks_of f n) j ≡ marks_of g n
one-more-mark f g n j low high here other = grind (arith, set-range)

pub same-marks : (f g : ℕ → Bool) (n : ℕ) → ((i : ℕ) → g i ≡ f i) → marks_of f n ≡ marks_of g n
same-marks f g n h = grind arith

-- the numbers that are marked are those that pass the test

pub marked-are : (f : ℕ → Bool) (n : ℕ) → marked (marks_of f n) ≡ filter f (range_with_len 1 n)
marked-are f n = grind (arith, length-map-range_with_len, filter-same, mark-is)

-- the numbers that are marked, step by step

more-marked : (marks : List Bool) (i : ℕ)
    → filter (is_marked marks) (range_with_len 1 (i + 1))
    ≡ filter (is_marked marks) (range_with_len 1 i) ++ filter (is_marked marks) ((1 + i) ∷ [])
more-marked marks i =
    rw (add-one i)
    (ap (filter (is_marked marks)) (range-push 1 i)
    ∙ filter-append (is_marked marks) (range_with_len 1 i) ((1 + i) ∷ []))

mark-at : (marks : List Bool) (i : ℕ) (b : Bool) → get_or marks i true ≡ b → is_marked marks (1 + i) ≡ b
mark-at marks i b is = let e : 1 + i - 1 ≡ i = omega arith in rw e is

pub one-more-marked : (marks : List Bool) (i number : ℕ) → number ≡ i → get_or marks i true ≡ true
    → filter (is_marked marks) (range_with_len 1 i) ++ ((number + 1) ∷ [])
    ≡ filter (is_marked marks) (range_with_len 1 (i + 1))
one-more-marked marks i number same is = grind (arith, mark-at, more-marked)

pub none-more-marked : (marks : List Bool) (i : ℕ) → get_or marks i true ≡ false
    → filter (is_marked marks) (range_with_len 1 i) ≡ filter (is_marked marks) (range_with_len 1 (i + 1))
none-more-marked marks i is = grind (arith, mark-at, more-marked, append-nil)

-- they are a set
pub marked-set : (marks : List Bool) (n : ℕ) → length marks ≡ n → IsSet 1 n (marked marks)
marked-set marks n same = grind (arith, filter-set)
