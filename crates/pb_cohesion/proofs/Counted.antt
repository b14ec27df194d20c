-- How many members and projects there are that pass a test, and what is shown of the members, as loops find them.
use Rattle.std.proofs.Common.{◌≡◌, ℕ, ◌+◌, ◌-◌, ◌<◌, ◌≤◌, Bool, true, false, cond, List, [], ◌∷◌, ◌++◌, get_or, length, take, refl, sym, ◌∙◌, ap, subst, arith}
use Rattle.std.specs.Prelude.{◌&&◌, Option, Some, None, filter, is_some, map, max, nat_le, not, slice_get, sum_by}
use Rattle.std.specs.List.{range_with_len}
use Rattle.std.specs.Option.{option_or}
use Rattle.std.proofs.lemmas.List.{length-append, length-map, take_all, take_more}
use Rattle.std.proofs.lemmas.List.Concat.{length-flat_map}
use Rattle.std.proofs.lemmas.List.Elements.{filter-append}
use Rattle.std.proofs.lemmas.List.Filters.{length-filter_both, length-filter_more}
use Rattle.std.proofs.lemmas.List.Sums.{sum_by-cons}
use Rattle.std.proofs.Math.Bool.{and_comm}
use Rattle.pb_records.proofs.Lists.{filter-same}
use Rattle.pb_election.specs.Instance.{Instance, IsSet, approves, ballot_of, cost_of_all, projects}
use Rattle.pb_election.specs.Text.{IsElection}
use Rattle.pb_cohesion.specs.Amounts.{largest_by}
use Rattle.pb_cohesion.specs.FirstV.{culprits_of_V2}
use Rattle.pb_cohesion.specs.ViolationFindings.{satisfied_members, shown_worth, violation_findings}
use Rattle.pb_cohesion.specs.Groups.{gets, sat}
use Rattle.pb_cohesion.specs.declared.SatisfiedMembers.{SatisfiedMembers}
use Rattle.pb_cohesion.proofs.Ballots.{set-is}
use Rattle.pb_cohesion.proofs.Culprits.{filter-filter}
use Rattle.pb_cohesion.proofs.Loops.{set-length}
use Rattle.pb_cohesion.proofs.Sums.{among}

-- what two sets have in common

common : (n : ℕ) (s t : List ℕ) → IsSet 1 n s → IsSet 1 n t → filter (among t) s ≡ filter (among s) t
common n s t hs ht =
    ap (filter (among t)) (sym (set-is n 1 n s (omega arith) hs))
    ∙ filter-filter (among t) (among s) (range_with_len 1 n)
    ∙ filter-same (λ j. among s j && among t j) (λ j. among t j && among s j) n 1
    (λ j low high. and_comm (among s j) (among t j))
    ∙ sym (filter-filter (among s) (among t) (range_with_len 1 n))
    ∙ ap (filter (among s)) (set-is n 1 n t (omega arith) ht)

-- a count with one more, or without
pub few-more : (b : Bool) (k n m : ℕ) → n ≤ k → m ≡ n + cond b 1 0 → m ≤ k + 1
few-more true k n m h is = omega arith
few-more false k n m h is = omega arith

-- so many of the first k numbers of s are among t
pub record AreCommon (t s : List ℕ) (k n : ℕ) : Type 0 where
  pub many : n ≡ length (filter (among t) (take k s))
  pub few : n ≤ k

pub common-more : (t s : List ℕ) (k n m : ℕ) (b : Bool) → AreCommon t s k n → k < length s → among t (get_or s k 0) ≡ b
    → m ≡ n + cond b 1 0 → AreCommon t s (k + 1) m
common-more t s k n m b h within here is = record {
  many = is ∙ ap (λ i. i + cond b 1 0) h.many ∙ ap (λ x. length (filter (among t) (take k s)) + cond x 1 0) (sym here)
      ∙ sym (length-filter_more (among t) s k 0 within);
  few = few-more b k n m h.few is;
}

-- the demanded projects that a ballot doesn't have are all but those that it has
pub missing-is : (e : Instance) (i : ℕ) (b t : List ℕ) (approved k : ℕ) → b ≡ ballot_of e i → IsSet 1 (projects e) b
    → IsSet 1 (projects e) t → AreCommon t b k approved → length b ≤ k
    → approved + length (filter (λ j. not (approves e i j)) t) ≡ length t
missing-is e i b t approved k is hb ht h end = grind (arith, take_all, common, length-filter_both)

pub few-missing : (e : Instance) (i : ℕ) (t : List ℕ) (n : ℕ) → IsElection e → IsSet 1 (projects e) t
    → n ≡ length (filter (λ j. not (approves e i j)) t) → n ≤ 20000
few-missing e i t n sound set is =
    let few : length t ≤ projects e + 1 - 1 = set-length 1 (projects e) t set in
    omega (arith, sound.few_projects, length-filter_both (approves e i) (λ j. not (approves e i j)) (λ j. refl) t)

-- the pairs of a member and a project are as many as the projects of all members

abbrev pub with_voter : Instance → List ℕ → ℕ → List (ℕ × ℕ)
with_voter e t i = map (λ j. (i, j)) (filter (λ j. not (approves e i j)) t)

pub pairs-are : (e : Instance) (s t : List ℕ)
    → sum_by (λ i. length (filter (λ j. not (approves e i j)) t)) s ≡ length (culprits_of_V2 e s t)
pairs-are e s t = grind (arith, length-flat_map, length-map, sum_by-cons)

-- one more member
pub largest-push : (f : ℕ → ℕ) (xs : List ℕ) (x : ℕ) → largest_by f (xs ++ (x ∷ [])) ≡ max (largest_by f xs) (f x)
largest-push f [] x = omega arith
largest-push f (y ∷ xs) x = grind (arith, largest-push f xs x)

-- what is known of the members in a list, where q tells the satisfied ones and f what each gets
pub record Seen (q : ℕ → Bool) (f : ℕ → ℕ) (xs : List ℕ) (satisfied : SatisfiedMembers) (gets : ℕ) : Type 0 where
  pub first : satisfied.first ≡ slice_get (filter q xs) 0
  pub count : satisfied.count ≡ length (filter q xs)
  pub shown : gets ≡ shown_worth satisfied.first f xs

pub none-seen : (q : ℕ → Bool) (f : ℕ → ℕ) → Seen q f [] (record { first = None; count = 0 }) 0
none-seen q f = record { first = refl; count = refl; shown = refl }

first-push : (ys : List ℕ) (b : Bool) (x : ℕ) (o : Option ℕ) → o ≡ slice_get ys 0
    → option_or o (cond b (Some x) None) ≡ slice_get (ys ++ cond b (x ∷ []) []) 0
first-push [] true x o is = ap (λ z. option_or z (Some x)) is
first-push [] false x o is = ap (λ z. option_or z None) is
first-push (y ∷ ys) b x o is = ap (λ z. option_or z (cond b (Some x) None)) is

count-push : (ys : List ℕ) (b : Bool) (x n : ℕ) → n ≡ length ys → n + cond b 1 0 ≡ length (ys ++ cond b (x ∷ []) [])
count-push ys true x n is = omega (arith, length-append ys (x ∷ []))
count-push ys false x n is = omega (arith, length-append ys [])

shown-push : (f : ℕ → ℕ) (xs : List ℕ) (o : Option ℕ) (b : Bool) (x g : ℕ) → g ≡ shown_worth o f xs
    → cond (is_some o) g (cond b (f x) (max g (f x)))
    ≡ shown_worth (option_or o (cond b (Some x) None)) f (xs ++ (x ∷ []))
shown-push f xs o b x g is = grind (arith, largest-push)

-- one more member
seen-push : (q : ℕ → Bool) (f : ℕ → ℕ) (xs : List ℕ) (x : ℕ) (s s' : SatisfiedMembers) (g g' : ℕ) (b : Bool)
    → Seen q f xs s g → q x ≡ b
    → s'.first ≡ option_or s.first (cond b (Some x) None) → s'.count ≡ s.count + cond b 1 0
    → g' ≡ cond (is_some s.first) g (cond b (f x) (max g (f x))) → Seen q f (xs ++ (x ∷ [])) s' g'
seen-push q f xs x s s' g g' b h is first count shown = grind (arith, first-push, count-push, shown-push, filter-append)

pub seen-more : (q : ℕ → Bool) (f : ℕ → ℕ) (xs : List ℕ) (k : ℕ) (s s' : SatisfiedMembers) (g g' n : ℕ) (b : Bool)
    → Seen q f (take k xs) s g → k < length xs → n ≡ f (get_or xs k 0) → q (get_or xs k 0) ≡ b
    → s'.first ≡ option_or s.first (cond b (Some (get_or xs k 0)) None) → s'.count ≡ s.count + cond b 1 0
    → g' ≡ cond (is_some s.first) g (cond b n (max g n)) → Seen q f (take (k + 1) xs) s' g'
seen-more q f xs k s s' g g' n b h within gets_is is first count shown =
    subst (λ ys. Seen q f ys s' g') (sym (take_more xs k 0 within))
    (seen-push q f (take k xs) (get_or xs k 0) s s' g g' b h is first count
    (shown ∙ ap (λ m. cond (is_some s.first) g (cond b m (max g m))) gets_is))

-- all members
pub all-seen : (q : ℕ → Bool) (f : ℕ → ℕ) (xs : List ℕ) (k : ℕ) (s : SatisfiedMembers) (g : ℕ)
    → Seen q f (take k xs) s g → length xs ≤ k → (s ≡ satisfied_members (filter q xs))
    × (g ≡ shown_worth (slice_get (filter q xs) 0) f xs)
all-seen q f xs k s g h end = grind (arith, take_all)

-- findings of the same parts
pub findings-are : (worth : ℕ → ℕ) (e : Instance) (w : List Bool) (s t : List ℕ) (cost : ℕ) (first : Option (ℕ × ℕ))
    (count demanded : ℕ) (satisfied : SatisfiedMembers) (shown : ℕ)
    → cost ≡ cost_of_all e t → first ≡ slice_get (culprits_of_V2 e s t) 0 → count ≡ length (culprits_of_V2 e s t)
    → demanded ≡ sat worth t
    → satisfied ≡ satisfied_members (filter (λ i. nat_le demanded (sat worth (gets e w i))) s)
    → shown ≡ shown_worth (slice_get (filter (λ i. nat_le demanded (sat worth (gets e w i))) s) 0)
    (λ i. sat worth (gets e w i)) s
    → record {
      members = length s;
      cost = cost;
      unapproved = record { first = first; count = count };
      demanded = demanded;
      satisfied = satisfied;
      gets = shown;
    } ≡ violation_findings worth e w s t
findings-are worth e w s t cost first count demanded satisfied shown p q r d m g = rw (p, q, r, m, g, d) refl
