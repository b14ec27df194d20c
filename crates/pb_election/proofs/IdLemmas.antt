-- The ids that are kept, in a set of strings and in an order.
use Rattle.std.proofs.Common.{◌≡◌, ◌∙◌, ◌+◌, ◌++◌, length, ℕ, List, [], ◌∷◌, refl, ap, arith, suc, zero, take, Bool, true, false, Option, None, Some}
use Rattle.std.specs.BTreeMap.{BTreeMap, Updates, get_by_text}
use Rattle.std.specs.Map.{update}
use Rattle.std.specs.Prelude.{◌==◌, if◌then◌else◌, is_some, map, not, position, slice_get, string_bytes}
use Rattle.std.specs.Global.{Global}
use Rattle.std.specs.List.{AllByRecursion, IsDistinct, list_any, position_from}
use Rattle.std.specs.Option.{option_map}
use Rattle.std.specs.Str.{bytes_eq}
use Rattle.std.specs.String.{string_cmp, string_eq}
use Rattle.std.specs.declared.string.String.{String}
use Rattle.std.proofs.lemmas.Iterator.Adapters.{position_from-zero}
use Rattle.std.proofs.lemmas.Cmp.{nat_list_eq_equiv}
use Rattle.std.proofs.lemmas.List.{map-append}
use Rattle.std.proofs.lemmas.Map.Keys.{IsDistinct-push}
use Rattle.std.proofs.lemmas.Map.Text.{btree_map_updates_text}
use Rattle.std.proofs.lemmas.Slice.Eq.{bytes_eq-Decides}
use Rattle.indexmap.specs.IndexSet.{insert_key}
use Rattle.pb_money.proofs.Numbers.{is-empty}
use Rattle.pb_records.specs.Records.{Field}
use Rattle.pb_election.specs.Names.{is_among}
use Rattle.pb_election.specs.Inside.Ids.{IsIndexed, ids_kept}
use Rattle.pb_election.specs.Rows.{is_control, is_id}

any-map : {A B : Type 0} (p : B → Bool) (f : A → B) (xs : List A) → list_any (λ x. p (f x)) xs ≡ list_any p (map f xs)
any-map p f [] = refl
any-map p f (x ∷ xs) = rw (any-map p f xs) refl

-- an id is found where it is kept
pub found-among : (keys : List (String Global)) (id : Field)
    → list_any (λ k. bytes_eq id (string_bytes k)) keys ≡ is_among (ids_kept keys) id
found-among keys id = any-map (bytes_eq id) (λ k. string_bytes k) keys

-- a new id comes last

pub insert-new : (keys : List (String Global)) (key : String Global)
    → is_among (ids_kept keys) (string_bytes key) ≡ false
    → ids_kept (insert_key string_eq keys key) ≡ ids_kept keys ++ string_bytes key ∷ []
insert-new keys key new =
    let e : list_any (string_eq key) keys ≡ false = found-among keys (string_bytes key) ∙ new in
    rw e (map-append (λ k. string_bytes k) keys (key ∷ []))

-- the position of an id
position-map : {A B : Type 0} (p : B → Bool) (f : A → B) (n : ℕ) (xs : List A)
    → position_from (λ x. p (f x)) n xs ≡ position_from p n (map f xs)
position-map p f n [] = refl
position-map p f n (x ∷ xs) = rw (position-map p f (n + 1) xs) refl

pub position-next : {A : Type 0} (p : A → Bool) (n : ℕ) (xs : List A)
    → option_map (λ i. i + 1) (position_from p n xs) ≡ position_from p (n + 1) xs
position-next p n [] = refl
position-next p n (x ∷ xs) = grind (arith, position-next p (n + 1) xs)

pub place-kept : (keys : List (String Global)) (id : Field) (o : Option ℕ)
    → o ≡ position (λ k. bytes_eq id (string_bytes k)) keys
    → option_map (λ i. i + 1) o ≡ position_from (bytes_eq id) 1 (ids_kept keys)
place-kept keys id o e =
    ap (option_map (λ i. i + 1))
    (e ∙ position_from-zero (λ k. bytes_eq id (string_bytes k)) keys
    ∙ position-map (bytes_eq id) (λ k. string_bytes k) 0 keys)
    ∙ position-next (bytes_eq id) 0 (ids_kept keys)

-- what each id differs from, that at an index differs from
at-kept : (id : Field) (keys : List (String Global)) (i : ℕ) (k : String Global)
    → AllByRecursion (λ other. bytes_eq id other ≡ false) (ids_kept keys) → slice_get keys i ≡ Some k
    → bytes_eq id (string_bytes k) ≡ false
at-kept id [] i k h g = cc g
at-kept id (j ∷ js) zero k h g = let same : j ≡ k = cc g in rw (← same) h.0
at-kept id (j ∷ js) (suc i) k h g = at-kept id js i k h.1 g

-- no id is kept twice
pub distinct-kept : (keys : List (String Global)) → IsDistinct string_eq keys → IsDistinct bytes_eq (ids_kept keys)
unfolding IsDistinct
distinct-kept [] h = tt
distinct-kept (k ∷ ks) h = (each ks h.0, distinct-kept ks h.1)
  where
    each : (js : List (String Global)) → AllByRecursion (λ j. string_eq k j ≡ false) js
        → AllByRecursion (λ id. bytes_eq (string_bytes k) id ≡ false) (ids_kept js)
    each [] h = tt
    each (j ∷ js) h = (h.0, each js h.1)

-- whether a text may be an id
pub id-full : (id : Field) → (length id == 0) ≡ false → is_id id ≡ not (list_any is_control id)
unfolding is_id
id-full id e = rw (is-empty id, e) refl

pub id-empty : (id : Field) → (length id == 0) ≡ true → is_id id ≡ false
unfolding is_id
id-empty id e = rw (is-empty id, e) refl

-- an id stands where it is met first, since none is kept twice
pub place-at : (keys : List (String Global)) (i : ℕ) (k : String Global) (id : Field)
    → IsDistinct bytes_eq (ids_kept keys) → slice_get keys i ≡ Some k → bytes_eq (string_bytes k) id ≡ true
    → (n : ℕ) → position_from (bytes_eq id) n (ids_kept keys) ≡ Some (i + n)
unfolding IsDistinct
place-at [] i k id h g e n = cc g
place-at (x ∷ xs) zero k id h g e n = grind (arith, nat_list_eq_equiv)
place-at (x ∷ xs) (suc i) k id h g e n =
    let other : bytes_eq (string_bytes x) (string_bytes k) ≡ false = at-kept (string_bytes x) xs i k h.0 g in
    let same : string_bytes k ≡ id = (bytes_eq-Decides (string_bytes k) id).0 e in
    let on : bytes_eq id (string_bytes x) ≡ false =
    nat_list_eq_equiv.symm id (string_bytes x) ∙ rw (← same) other in
    rw on (place-at xs i k id h.1 g e (n + 1) ∙ ap Some (omega arith))

-- an id isn't among those before it, since none is kept twice
pub new-after : (keys : List (String Global)) (i : ℕ) (k : String Global)
    → IsDistinct bytes_eq (ids_kept keys) → slice_get keys i ≡ Some k
    → is_among (ids_kept (take i keys)) (string_bytes k) ≡ false
unfolding IsDistinct
new-after [] i k h g = cc g
new-after (x ∷ xs) zero k h g = refl
new-after (x ∷ xs) (suc i) k h g =
    let other : bytes_eq (string_bytes k) (string_bytes x) ≡ false =
    nat_list_eq_equiv.symm (string_bytes k) (string_bytes x) ∙ at-kept (string_bytes x) xs i k h.0 g in
    rw other (new-after xs i k h.1 g)

-- an index is found of what is among the others, and of nothing else
pub found-place : {A : Type 0} (p : A → Bool) (n : ℕ) (xs : List A)
    → is_some (position_from p n xs) ≡ list_any p xs
found-place p n [] = refl
found-place p n (x ∷ xs) = grind (arith, found-place p (n + 1) xs)

-- one more at the end is found there, unless one before is
place-added : {A : Type 0} (p : A → Bool) (n : ℕ) (xs : List A) (y : A)
    → position_from p n (xs ++ y ∷ [])
    ≡ (if is_some (position_from p n xs) then position_from p n xs else if p y then Some (length xs + n) else None)
place-added p n [] y = grind arith
place-added p n (x ∷ xs) y = grind (arith, place-added p (n + 1) xs y)

some-or-none : (o : Option ℕ) → o ≡ (if is_some o then o else None)
some-or-none None = refl
some-or-none (Some i) = refl

-- an empty map has the index of each of no ids
pub indexed-none : (m : BTreeMap (String Global) ℕ) → m.entries ≡ [] → IsIndexed m []
unfolding IsDistinct
indexed-none m e = record { distinct = tt; each = λ id. rw e refl }

-- a map that has the index of each id has it also with one more
pub indexed-added : (old new : BTreeMap (String Global) ℕ) (ids : List Field) (key : String Global) (id : Field)
    → IsIndexed old ids → string_bytes key ≡ id → is_among ids id ≡ false
    → Updates string_cmp old new key (Some (length ids)) → IsIndexed new (ids ++ id ∷ [])
indexed-added old new ids key id i same absent u =
    record {
      distinct = IsDistinct-push nat_list_eq_equiv ids id i.distinct absent;
      each = λ q. rw same at (btree_map_updates_text (string_bytes key) old new (Some (length ids)) u q)
          ∙ by q (bytes_eq id q) refl;
    }
  where
    by : (q : Field) (b : Bool) → bytes_eq id q ≡ b
        → update bytes_eq (get_by_text old) id (Some (length ids)) q ≡ position_from (bytes_eq q) 0 (ids ++ id ∷ [])
    by q true e =
        let here : id ≡ q = (bytes_eq-Decides id q).0 e in
        let new : is_some (position_from (bytes_eq id) 0 ids) ≡ false = found-place (bytes_eq id) 0 ids ∙ absent in
        rw (e, place-added (bytes_eq q) 0 ids id, ← here, new, nat_list_eq_equiv.refl id) (ap Some (omega arith))
    by q false e =
        rw (e, place-added (bytes_eq q) 0 ids id, nat_list_eq_equiv.symm q id, e, i.each q)
        (some-or-none (position_from (bytes_eq q) 0 ids))
