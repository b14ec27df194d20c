-- Votes, piece by piece.
use Rattle.std.proofs.Common.{inl, inr, ◌≡◌, ◌∙◌, ◌<◌, ◌+◌, ◌++◌, ℕ, suc, List, [], ◌∷◌, refl, sym, ap, arith, add-one, Bool, true, false, Option, Some, None, length, take, drop, get_or, append_assoc}
use Rattle.std.specs.Prelude.{◌==◌, ◌&&◌, ◌||◌, cond, if◌then◌else◌, filter, map, not, position, MatchOption}
use Rattle.std.specs.List.{list_all, list_any, position_from}
use Rattle.std.specs.Str.{byte, bytes_eq, IsCharBoundary, IsUtf8}
use Rattle.std.proofs.lemmas.Bool.{cases_Bool, or_parts}
use Rattle.std.proofs.lemmas.Bool.Decides.{nat_tests}
use Rattle.std.proofs.lemmas.Iterator.Adapters.{position_from-zero}
use Rattle.std.proofs.lemmas.List.{map-append, take-append-drop}
use Rattle.std.proofs.lemmas.Str.{IsCharBoundary-after_ascii, IsCharBoundary-before_ascii}
use Rattle.std.proofs.Math.Seq.{drop-cons}
use Rattle.pb_money.specs.Digits.{is_empty}
use Rattle.pb_records.specs.Records.{Field}
use Rattle.pb_records.specs.Cells.{clean}
use Rattle.pb_election.specs.Names.{cut_at, is_among}
use Rattle.pb_election.specs.Inside.Ids.{position_in}
use Rattle.pb_election.specs.Rows.{names_in}

abbrev pub is_comma : ℕ → Bool
is_comma b = b == byte ","

-- a text with no comma is one piece, and else the first piece stands before the first comma
pub cut-whole : (piece : Field) → list_any is_comma piece ≡ false → cut_at is_comma piece ≡ piece ∷ []
unfolding cut_at
cut-whole [] e = refl
cut-whole (b ∷ bs) e =
    let o = or_parts (is_comma b) (list_any is_comma bs) e in
    rw (o.0, cut-whole bs o.1) refl

pub cut-first : (piece rest : Field) → list_any is_comma piece ≡ false
    → cut_at is_comma (piece ++ byte "," ∷ rest) ≡ piece ∷ cut_at is_comma rest
unfolding cut_at
cut-first [] rest e = refl
cut-first (b ∷ bs) rest e =
    let o = or_parts (is_comma b) (list_any is_comma bs) e in
    rw (o.0, cut-first bs rest o.1) refl

-- i is the place of the first comma
pub record IsFirstComma (text : Field) (i : ℕ) : Type 0 where
  pub within : i < length text
  pub comma : get_or text i 0 ≡ byte ","
  pub before : list_any is_comma (take i text) ≡ false

-- a search stops at a place that passes, and else goes on behind it
pub some-is : (n j : ℕ) (b : Bool) (o : Option ℕ) → b ≡ true → cond b (Some n) o ≡ Some j → j ≡ n
some-is n j true o t e = cc e
some-is n j false o t e = cc t

pub some-on : (n j : ℕ) (b : Bool) (o : Option ℕ) → b ≡ false → cond b (Some n) o ≡ Some j → o ≡ Some j
some-on n j true o t e = cc t
some-on n j false o t e = e

comma-from : (n j : ℕ) (text : Field) → position_from is_comma n text ≡ Some j
    → (i : ℕ) × (j ≡ n + i) × IsFirstComma text i
comma-from n j [] e = cc e
comma-from n j (b ∷ bs) e =
    elim (cases_Bool (is_comma b)) [
      | inl t ↦
          let s = some-is n j (is_comma b) (position_from is_comma (n + 1) bs) t e in
          let q : b ≡ byte "," = grind (arith, nat_tests) in
          (0, omega arith, record { within = omega arith; comma = q; before = refl })
      | inr t ↦
          let r = comma-from (n + 1) j bs (some-on n j (is_comma b) (position_from is_comma (n + 1) bs) t e) in (
            suc r.0,
            omega (arith, r.1),
            record {
              within = omega (arith, r.2.within);
              comma = r.2.comma;
              before = ap (λ v. v || list_any is_comma (take r.0 bs)) t ∙ r.2.before;
            },
          )
    ]

pub first-comma : (text : Field) (i : ℕ) → Some i ≡ position is_comma text → IsFirstComma text i
first-comma text i e = grind (arith, comma-from, position_from-zero)

-- the text round its first comma
pub comma-parts : (text : Field) (i : ℕ) → IsFirstComma text i → text ≡ take i text ++ byte "," ∷ drop (i + 1) text
comma-parts text i h = grind (arith, add-one, drop-cons, take-append-drop)

pub comma-boundary : (text : Field) (i : ℕ) → IsUtf8 text → IsFirstComma text i
    → IsCharBoundary text i × IsCharBoundary text (i + 1)
comma-boundary text i utf8 h =
    let ascii : get_or text i 0 < 128 = omega (arith, h.comma) in
    (IsCharBoundary-before_ascii text i h.within ascii, IsCharBoundary-after_ascii text i utf8 h.within ascii)

none-is : (n : ℕ) (b : Bool) (o : Option ℕ) → cond b (Some n) o ≡ None → (b ≡ false) × (o ≡ None)
none-is n true o e = cc e
none-is n false o e = (refl, e)

no-comma-from : (n : ℕ) (text : Field) → position_from is_comma n text ≡ None → list_any is_comma text ≡ false
no-comma-from n [] e = refl
no-comma-from n (b ∷ bs) e =
    let r = none-is n (is_comma b) (position_from is_comma (n + 1) bs) e in
    rw r.0 (no-comma-from (n + 1) bs r.1)

pub no-comma : (text : Field) → None ≡ position is_comma text → list_any is_comma text ≡ false
no-comma text e = no-comma-from 0 text (sym (position_from-zero is_comma text) ∙ sym e)

-- the names in what is left of a vote
abbrev pub names_left : Option Field → List Field
names_left None = []
names_left (Some text) = names_in text

-- one more name, unless it is empty
abbrev pub with_name : Field → List Field → List Field
with_name name names = if is_empty name then names else name ∷ names

name-first : (piece : Field) (pieces : List Field)
    → filter (λ name. not (is_empty name)) (map clean (piece ∷ pieces))
    ≡ with_name (clean piece) (filter (λ name. not (is_empty name)) (map clean pieces))
name-first piece pieces = grind arith

pub names-first : (text piece : Field) (rest : Option Field) → list_any is_comma piece ≡ false
    → MatchOption rest (text ≡ piece) (λ r. text ≡ piece ++ byte "," ∷ r)
    → names_in text ≡ with_name (clean piece) (names_left rest)
unfolding names_in
names-first text piece None e s = rw (s, cut-whole piece e) (name-first piece [])
names-first text piece (Some rest) e s = rw (s, cut-first piece rest e) (name-first piece (cut_at is_comma rest))

-- where an id stands, if it is kept
pub unplaced : (n : ℕ) (kept : List Field) (id : Field) → position_from (bytes_eq id) n kept ≡ None
    → is_among kept id ≡ false
unplaced n [] id e = refl
unplaced n (k ∷ ks) id e =
    let r = none-is n (bytes_eq id k) (position_from (bytes_eq id) (n + 1) ks) e in
    ap (λ b. b || is_among ks id) r.0 ∙ unplaced (n + 1) ks id r.1

pub placed : (n p : ℕ) (kept : List Field) (id : Field) → position_from (bytes_eq id) n kept ≡ Some p
    → is_among kept id ≡ true
placed n p [] id e = cc e
placed n p (k ∷ ks) id e = grind (arith, placed (n + 1) p ks id)

-- how far the names of a vote have been looked up
pub record AreLookedUp (kept : List Field) (vote : Field) (found : List ℕ) (left : Option Field) : Type 0 where
  pub known : list_all (is_among kept) (names_left left) ≡ list_all (is_among kept) (names_in vote)
  pub places : map Some found ++ map (position_in kept) (names_left left) ≡ map (position_in kept) (names_in vote)

module _ (kept : List Field) (vote text piece : Field) (found : List ℕ) (rest : Option Field)
    (whole : list_any is_comma piece ≡ false)
    (parts : MatchOption rest (text ≡ piece) (λ r. text ≡ piece ++ byte "," ∷ r))
    (before : AreLookedUp kept vote found (Some text)) where
  pub lookup-skips : is_empty (clean piece) ≡ true → AreLookedUp kept vote found rest
  lookup-skips e =
      let n : names_in text ≡ names_left rest = names-first text piece rest whole parts ∙ rw e refl in
      record {
        known = ap (list_all (is_among kept)) (sym n) ∙ before.known;
        places = ap (λ names. map Some found ++ map (position_in kept) names) (sym n) ∙ before.places;
      }

  first-name : is_empty (clean piece) ≡ false → names_in text ≡ clean piece ∷ names_left rest
  first-name e = names-first text piece rest whole parts ∙ rw e refl

  pub lookup-goes-on : (p : ℕ) → is_empty (clean piece) ≡ false → position_in kept (clean piece) ≡ Some p
      → AreLookedUp kept vote (found ++ p ∷ []) rest
  lookup-goes-on p e at =
      let n = first-name e in
      let names = names_left rest in
      let tail = map (position_in kept) names in
      let k : list_all (is_among kept) (clean piece ∷ names) ≡ list_all (is_among kept) names =
      ap (λ b. b && list_all (is_among kept) names) (placed 1 p kept (clean piece) at) in
      let pushed : map Some (found ++ p ∷ []) ++ tail ≡ map Some found ++ (Some p ∷ tail) =
      ap (λ l. l ++ tail) (map-append Some found (p ∷ [])) ∙ append_assoc (map Some found) (Some p ∷ []) tail in
      record {
        known = sym k ∙ ap (list_all (is_among kept)) (sym n) ∙ before.known;
        places = pushed ∙ ap (λ o. map Some found ++ (o ∷ tail)) (sym at)
            ∙ ap (λ l. map Some found ++ map (position_in kept) l) (sym n) ∙ before.places;
      }

  pub lookup-fails : is_empty (clean piece) ≡ false → position_in kept (clean piece) ≡ None
      → list_all (is_among kept) (names_in vote) ≡ false
  lookup-fails e at =
      let names = names_left rest in
      sym before.known ∙ ap (list_all (is_among kept)) (first-name e)
      ∙ ap (λ b. b && list_all (is_among kept) names) (unplaced 1 kept (clean piece) at)
