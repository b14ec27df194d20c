-- The payments by voter with one more row, or one more voter that is done.
use Rattle.std.proofs.Common.{◌≡◌, ◌≤◌, ◌<◌, ◌+◌, ◌^◌, ◌∙◌, ℕ, zero, suc, true, false, List, [], ◌∷◌, ◌++◌, length, refl, sym, ap, subst, arith, add-one, append-nil, length-append, IsPermutation}
use Rattle.std.specs.Prelude.{◌==◌, map, nat_lt}
use Rattle.std.specs.List.{AllByRecursion, IsDistinct, list_any, range_with_len, sum_by}
use Rattle.std.specs.List.Sorted.{IsNonDecreasingBy}
use Rattle.std.proofs.lemmas.List.FromFn.{length-map-range_with_len}
use Rattle.std.proofs.lemmas.Bool.{eq-eqb, le-ltb, lt-ltb, ne_eqb}
use Rattle.std.proofs.lemmas.List.Elements.{filter_map-append}
use Rattle.std.proofs.lemmas.List.Sorted.{length_permutation}
use Rattle.std.proofs.lemmas.List.Sums.{sum_by-append, sum_by-cons}
use Rattle.pb_records.proofs.Each.{all-push, all-weaker}
use Rattle.pb_records.proofs.Lists.{map-same}
use Rattle.pb_certificate.specs.Inside.Prices.Gathering.{Holds, payments_made, prices_up_to, stated_by, stated_up_to}
use Rattle.pb_certificate.specs.Inside.Prices.PaymentSinks.{CanTake, with_voter}
use Rattle.pb_certificate.specs.Prices.{IsPaymentMap, Prices}
use Rattle.pb_certificate.specs.Prices.Rows.{Rows}
use Rattle.pb_election.specs.Instance.{Instance, projects}
use Rattle.pb_certificate.specs.Prices.Text.{Payment, same_pair, stated}
use Rattle.pb_certificate.specs.declared.prices.gathering.Turn.{Turn}
use Rattle.pb_certificate.proofs.OnPrices.RowSteps.{once-push}
use Rattle.pb_certificate.proofs.OnPrices.SortedRuns.{sorted-stated}
use Rattle.pb_certificate.proofs.OnPrices.Texts.{map-stated, pairs}

-- the payments of a voter after one more
paid-append : (qs : List Payment) (q : Payment) (i : ℕ)
    → payments_made (qs ++ (q ∷ [])) i ≡ payments_made qs i ++ payments_made (q ∷ []) i
paid-append qs q i = grind (arith, filter_map-append)

paid-here : (qs : List Payment) (q : Payment) → nat_lt 0 q.numerator ≡ true
    → payments_made (qs ++ (q ∷ [])) q.voter ≡ payments_made qs q.voter ++ ((q.project, q.numerator) ∷ [])
paid-here qs q some = grind (arith, eq-eqb, paid-append)

paid-nothing : (qs : List Payment) (q : Payment) (i : ℕ) → nat_lt 0 q.numerator ≡ false
    → payments_made (qs ++ (q ∷ [])) i ≡ payments_made qs i
paid-nothing qs q i none = grind (arith, paid-append, append-nil)

-- a voter that no payment has yet
paid-none : (qs : List Payment) (k i : ℕ) → AllByRecursion (λ q. q.voter ≤ k) qs → k < i → payments_made qs i ≡ []
paid-none [] k i h l = refl
paid-none (q ∷ qs) k i h l = let first : q.voter ≤ k = h.0 in
    rw (ne_eqb q.voter i (λ e. omega arith)) (paid-none qs k i h.1 l)

-- what is stated of another voter
stated-other : (qs : List Payment) (q : Payment) (i j : ℕ) → (q.voter == i) ≡ false
    → stated (qs ++ (q ∷ [])) i j ≡ stated qs i j
stated-other [] q i j h = rw h refl
stated-other (p ∷ ps) q i j h = grind (arith, stated-other ps q i j h)

pairs-same : (f g : ℕ → ℕ) (n a : ℕ) → ((j : ℕ) → f j ≡ g j) → pairs f a n ≡ pairs g a n
pairs-same f g zero a h = refl
pairs-same f g (suc n) a h = rw (h a, pairs-same f g n (a + 1) h) refl

-- lists over a range
map-push : {A : Type 0} (f : ℕ → A) (n a : ℕ)
    → map f (range_with_len a (suc n)) ≡ map f (range_with_len a n) ++ (f (a + n) ∷ [])
map-push f zero a = let e : a + 0 ≡ a = omega arith in rw e refl
map-push f (suc n) a = grind (arith, map-push f n (a + 1))

-- No payments.
pub no-rows : (has : Instance → Prices → Type 0) (s : Rows) (t : Turn) → has s.election (prices_up_to s [] 0)
    → t.done ≡ 0 → t.payments.items ≡ [] → Holds has s [] t
unfolding IsDistinct
no-rows has s t empty start none = grind arith

-- One more voter that is done.

later : (n : ℕ) (qs : List Payment) → AllByRecursion (λ q. q.voter ≤ n) qs → AllByRecursion (λ q. q.voter ≤ n + 1) qs
later n qs = all-weaker (λ q. q.voter ≤ n) (λ q. q.voter ≤ n + 1) qs (λ q before. omega arith)

-- the payments at hand in order
pub run-stated : (has : Instance → Prices → Type 0) (s : Rows) (qs : List Payment) (t : Turn) (run : List (ℕ × ℕ))
    → Holds has s qs t → IsNonDecreasingBy (λ p. p.0) run → IsPermutation t.payments.items run
    → run ≡ stated_by (projects s.election) qs (t.done + 1)
run-stated has s qs t run h sorted moved =
    sorted-stated qs (projects s.election) (t.done + 1) run h.once h.within sorted
    (subst (λ (xs : List (ℕ × ℕ)). IsPermutation xs run) h.at_hand moved)

-- how many voters are done
pub done-length : (s : Rows) (qs : List Payment) (n : ℕ) → length (stated_up_to (projects s.election) qs n) ≡ n
done-length s qs n = length-map-range_with_len (stated_by (projects s.election) qs) 1 n

pub one-more : (s : Rows) (qs : List Payment) (n : ℕ) (run : List (ℕ × ℕ))
    → run ≡ stated_by (projects s.election) qs (n + 1)
    → stated_up_to (projects s.election) qs n ++ (run ∷ []) ≡ stated_up_to (projects s.election) qs (n + 1)
one-more s qs n run is =
    let next : n + 1 ≡ 1 + n = omega arith in
    ap (λ (x : List (ℕ × ℕ)). stated_up_to (projects s.election) qs n ++ (x ∷ []))
    (is ∙ ap (stated_by (projects s.election) qs) next)
    ∙ sym
    (ap (stated_up_to (projects s.election) qs) (add-one n) ∙ map-push (stated_by (projects s.election) qs) n 1)

-- the sink can take them
pub can-take : (has : Instance → Prices → Type 0) (s : Rows) (qs : List Payment) (t : Turn) (run : List (ℕ × ℕ))
    → Holds has s qs t → IsNonDecreasingBy (λ p. p.0) run → IsPermutation t.payments.items run
    → CanTake has (t.done + 1) run
can-take has s qs t run h sorted moved =
    let is : run ≡ stated_by (projects s.election) qs (t.done + 1) = run-stated has s qs t run h sorted moved in
    let as_long : length run ≡ length t.payments.items = length_permutation t.payments.items run moved in
    let few : length qs ≤ 10000000 = h.few in
    record {
      election = s.election;
      prices = prices_up_to s qs t.done;
      has_prices = h.has_done;
      next = ap (λ (k : ℕ). k + 1) (sym (done-length s qs t.done));
      map = subst (IsPaymentMap (projects s.election)) (sym is)
          (map-stated (projects s.election) qs (t.done + 1) h.small);
      few = omega arith;
    }

pub closed : (has has' : Instance → Prices → Type 0) (s : Rows) (qs : List Payment) (old new : Turn)
    (run : List (ℕ × ℕ)) → Holds has s qs old → IsNonDecreasingBy (λ p. p.0) run → IsPermutation old.payments.items run
    → has' s.election (with_voter (prices_up_to s qs old.done) run) → new.done ≡ old.done + 1 → new.payments.items ≡ []
    → Holds has' s qs new
closed has has' s qs old new run h sorted moved taken many none_left =
    let n : ℕ = old.done in
    let is : run ≡ stated_by (projects s.election) qs (n + 1) = run-stated has s qs old run h sorted moved in
    let done : stated_up_to (projects s.election) qs n ++ (run ∷ []) ≡ stated_up_to (projects s.election) qs new.done =
    one-more s qs n run is ∙ ap (stated_up_to (projects s.election) qs) (sym many) in
    let none : AllByRecursion (λ q. q.voter ≤ new.done) qs =
    subst (λ (k : ℕ). AllByRecursion (λ q. q.voter ≤ k) qs) (sym many) h.none_later in
    let as_long : length run ≡ length old.payments.items = length_permutation old.payments.items run moved in
    let sums : sum_by length (stated_up_to (projects s.election) qs new.done)
    ≡ sum_by length (stated_up_to (projects s.election) qs n) + (length run + 0) =
    ap (sum_by length) (sym done) ∙ sum_by-append length (stated_up_to (projects s.election) qs n) (run ∷ [])
    ∙ ap (λ (k : ℕ). sum_by length (stated_up_to (projects s.election) qs n) + k) (sum_by-cons length run []) in
    let total : sum_by length (stated_up_to (projects s.election) qs n) + length old.payments.items ≤ length qs =
    h.total in
    let left : length new.payments.items ≡ 0 = ap length none_left in
    record {
      has_done =
          subst
          (λ (ps : List (List (ℕ × ℕ))). has' s.election
          (record { projects = projects s.election; denominator = s.denominator; budget = s.budget; payments = ps }))
          done taken;
      at_hand = none_left ∙ sym (paid-none qs new.done (new.done + 1) none (omega arith));
      none_later = later new.done qs none;
      once = h.once;
      within = h.within;
      small = h.small;
      total = omega arith;
      few = h.few;
    }

-- One more row.

row-done : (s : Rows) (qs : List Payment) (q : Payment) (n : ℕ) → q.voter ≡ n + 1
    → stated_up_to (projects s.election) qs n ≡ stated_up_to (projects s.election) (qs ++ (q ∷ [])) n
row-done s qs q n at = grind (arith, map-same, pairs-same, stated-other, ne_eqb)

one-row : (has : Instance → Prices → Type 0) (s : Rows) (qs : List Payment) (q : Payment) (old new : Turn)
    → Holds has s qs old → q.voter ≡ old.done + 1 → list_any (same_pair q) qs ≡ false → 1 ≤ q.project
    → q.project ≤ projects s.election → q.numerator ≤ 10 ^ 21
    → length qs < 10000000 → new.done ≡ old.done → new.payments.items ≡ payments_made (qs ++ (q ∷ [])) q.voter
    → length new.payments.items ≤ length old.payments.items + 1 → Holds has s (qs ++ (q ∷ [])) new
one-row has s qs q old new h at fresh low high small few same is long =
    let n : ℕ = old.done in
    let more : length (qs ++ (q ∷ [])) ≡ length qs + 1 = length-append qs (q ∷ []) in
    let total : sum_by length (stated_up_to (projects s.election) qs n) + length old.payments.items ≤ length qs =
    h.total in
    let done : stated_up_to (projects s.election) qs n ≡ stated_up_to (projects s.election) (qs ++ (q ∷ [])) new.done =
    row-done s qs q n at ∙ ap (stated_up_to (projects s.election) (qs ++ (q ∷ []))) (sym same) in
    let sums : sum_by length (stated_up_to (projects s.election) (qs ++ (q ∷ [])) new.done)
    ≡ sum_by length (stated_up_to (projects s.election) qs n) = ap (sum_by length) (sym done) in
    record {
      has_done =
          subst
          (λ (ps : List (List (ℕ × ℕ))). has s.election
          (record { projects = projects s.election; denominator = s.denominator; budget = s.budget; payments = ps }))
          done h.has_done;
      at_hand = is ∙ ap (payments_made (qs ++ (q ∷ []))) (at ∙ ap (λ (k : ℕ). k + 1) (sym same));
      none_later =
          subst (λ (k : ℕ). AllByRecursion (λ p. p.voter ≤ k + 1) (qs ++ (q ∷ []))) (sym same)
          (all-push (λ p. p.voter ≤ n + 1) qs q h.none_later (omega arith));
      once = once-push qs q h.once fresh;
      within = all-push (λ p. (1 ≤ p.project) × (p.project ≤ projects s.election)) qs q h.within (low, high);
      small = all-push (λ p. p.numerator ≤ 10 ^ 21) qs q h.small small;
      total = omega arith;
      few = omega arith;
    }

pub row-of-some : (has : Instance → Prices → Type 0) (s : Rows) (qs : List Payment) (q : Payment) (old new : Turn)
    → Holds has s qs old → q.voter ≡ old.done + 1 → list_any (same_pair q) qs ≡ false → 1 ≤ q.project
    → q.project ≤ projects s.election → q.numerator ≤ 10 ^ 21
    → length qs < 10000000 → 0 < q.numerator → new.done ≡ old.done
    → new.payments.items ≡ old.payments.items ++ ((q.project, q.numerator) ∷ []) → Holds has s (qs ++ (q ∷ [])) new
row-of-some has s qs q old new h at fresh low high small few some same is =
    let long : length new.payments.items ≡ length old.payments.items + 1 =
    ap length is ∙ length-append old.payments.items ((q.project, q.numerator) ∷ []) in
    one-row has s qs q old new h at fresh low high small few same
    (is ∙ ap (λ (xs : List (ℕ × ℕ)). xs ++ ((q.project, q.numerator) ∷ [])) (h.at_hand ∙ ap (payments_made qs) (sym at))
    ∙ sym (paid-here qs q (lt-ltb 0 q.numerator some))) (omega arith)

pub row-of-none : (has : Instance → Prices → Type 0) (s : Rows) (qs : List Payment) (q : Payment) (old : Turn)
    → Holds has s qs old → q.voter ≡ old.done + 1 → list_any (same_pair q) qs ≡ false → 1 ≤ q.project
    → q.project ≤ projects s.election → q.numerator ≤ 10 ^ 21
    → length qs < 10000000 → q.numerator ≤ 0 → Holds has s (qs ++ (q ∷ [])) old
row-of-none has s qs q old h at fresh low high small few none =
    one-row has s qs q old old h at fresh low high small few refl
    (h.at_hand ∙ ap (payments_made qs) (sym at) ∙ sym (paid-nothing qs q q.voter (le-ltb 0 q.numerator none)))
    (omega arith)
