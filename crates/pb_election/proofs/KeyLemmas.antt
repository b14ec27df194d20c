-- The keys of META: a row at which no fault stands has a new one, and its value is the one that is stated.
use Rattle.std.proofs.Common.{◌≡◌, ◌≤◌, ◌∙◌, ◌+◌, ◌++◌, List, [], ◌∷◌, refl, arith, inl, inr, Bool, true, false, Option, Some, None}
use Rattle.std.specs.Prelude.{IsSomeAnd, count_by, find, if◌then◌else◌}
use Rattle.std.specs.List.{list_any}
use Rattle.std.specs.Option.{option_map_or}
use Rattle.std.proofs.lemmas.Bool.{cases_Bool, or_parts}
use Rattle.std.proofs.lemmas.List.Folds.{find-append}
use Rattle.std.proofs.lemmas.List.Sums.{sum_by-append}
use Rattle.pb_records.specs.Records.{Field, Rec}
use Rattle.pb_election.specs.declared.keys.Key.{Key}
use Rattle.pb_election.specs.declared.keys.Key.TheVariants.{Budget, NumProjects, NumVotes, VoteType}
use Rattle.pb_election.specs.Rows.{has_key, key_in, same_key, stated_value, value_in}
use Rattle.pb_election.specs.Inside.SoFar.{has_stood, keys_in}
use Rattle.pb_election.specs.Text.{EachKeyOnce}

pub count-append : (p : Rec → Bool) (xs ys : List Rec) → count_by p (xs ++ ys) ≡ count_by p xs + count_by p ys
count-append p xs ys = sum_by-append (λ x. if p x then 1 else 0) xs ys

-- by the reader's own marks a key stood before exactly where some row has it
pub has_stood-is : (rows : List Rec) (key : Key) → has_stood (keys_in rows) key ≡ list_any (has_key key) rows
has_stood-is rows key = grind arith

pub once-at : (rows : List Rec) (key : Key) → EachKeyOnce rows → count_by (has_key key) rows ≤ 1
once-at rows key h = grind arith

pub once-by : (rows : List Rec) → ((key : Key) → count_by (has_key key) rows ≤ 1) → EachKeyOnce rows
once-by rows h = (h Budget, (h VoteType, (h NumProjects, (h NumVotes, tt))))

same-self : (key : Key) → same_key key key ≡ true
same-self key = grind arith

pub has-its-key : (r : Rec) (key : Key) → key_in r ≡ Some key → has_key key r ≡ true
has-its-key r key e = rw e (same-self key)

some-any : (p : Rec → Bool) (xs : List Rec) → list_any p xs ≡ true → 1 ≤ count_by p xs
some-any p [] h = cc h
some-any p (x ∷ xs) h =
    let c = count-append p (x ∷ []) xs in
    elim (cases_Bool (p x)) [
      | inl e ↦ let one : count_by p (x ∷ []) ≡ 1 = rw e refl in omega (arith, c, one)
      | inr e ↦ omega (arith, c, some-any p xs (rw e at h))
    ]

-- a row that is the only one of its kind has none of its kind before it
none-yet : (p : Rec → Bool) (xs : List Rec) (r : Rec) (zs : List Rec) → count_by p (xs ++ r ∷ zs) ≤ 1 → p r ≡ true
    → list_any p xs ≡ false
none-yet p xs r zs h e =
    elim (cases_Bool (list_any p xs)) [
      | inl any ↦
          let one : count_by p (r ∷ []) ≡ 1 = rw e refl in
          absurd (omega (arith, h, some-any p xs any, count-append p xs (r ∷ zs), count-append p (r ∷ []) zs, one))
      | inr none ↦ none
    ]

pub none-found : (p : Rec → Bool) (xs : List Rec) → list_any p xs ≡ false → ◌≡◌ {A = Option Rec} (find p xs) None
none-found p [] h = refl
none-found p (x ∷ xs) h =
    let o = or_parts (p x) (list_any p xs) h in
    rw o.0 (none-found p xs o.1)

-- where each read key stands once, each row has a new key
pub key-new : (xs : List Rec) (r : Rec) (zs : List Rec) → EachKeyOnce (xs ++ r ∷ zs)
    → option_map_or (λ key. list_any (has_key key) xs) (key_in r) false ≡ false
key-new xs r zs h = by (key_in r) refl
  where
    by : (o : Option Key) → key_in r ≡ o → option_map_or (λ key. list_any (has_key key) xs) o false ≡ false
    by None e = refl
    by (Some key) e = none-yet (has_key key) xs r zs (once-at (xs ++ r ∷ zs) key h) (has-its-key r key e)

-- where each read key stands once, the value of a row with a read key is the one that is stated
pub stated_value-here : (key : Key) (xs : List Rec) (r : Rec) (zs : List Rec) → EachKeyOnce (xs ++ r ∷ zs)
    → has_key key r ≡ true → stated_value key (xs ++ r ∷ zs) ≡ Some (value_in r)
stated_value-here key xs r zs h has =
    let none = none-found (has_key key) xs (none-yet (has_key key) xs r zs (once-at (xs ++ r ∷ zs) key h) has) in
    let found : find (has_key key) (xs ++ r ∷ zs) ≡ Some r =
    find-append (has_key key) xs (r ∷ zs) ∙ rw (none, has) refl in
    rw found refl

-- a stated key stood
pub key-there : (key : Key) (P : Field → Type 0) (rows : List Rec) → IsSomeAnd (stated_value key rows) P
    → list_any (has_key key) rows ≡ true
key-there key P [] h = absurd h
key-there key P (x ∷ xs) h =
    elim (cases_Bool (has_key key x)) [
      | inl has ↦ rw has refl
      | inr hasnt ↦ rw hasnt (key-there key P xs (rw hasnt at h))
    ]
