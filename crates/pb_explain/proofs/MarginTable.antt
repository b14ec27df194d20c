-- The table of margins, as far as it has been written.
use Rattle.std.proofs.lemmas.List.FromFn.{length-map-range_with_len}
use Rattle.pb_records.proofs.Lists.{range-push}
use Rattle.pb_certificate.proofs.OnPrices.Canon.Written.{lines-push}
use mir.Syntax.{w128}
use Rattle.std.proofs.Common.{◌≡◌, ◌∙◌, ◌<◌, ◌+◌, ◌^◌, ℕ, zero, suc, List, [], ◌∷◌, ◌++◌, length, map, refl, sym, ap, arith, SFits, append_assoc, append-nil, get_or, Bool, true, false}
use Rattle.std.specs.Prelude.{codes, decimal, ℤ, pos, negsuc}
use Rattle.std.specs.Fmt.{signed_decimal}
use Rattle.std.specs.List.{range_with_len}
use Rattle.std.proofs.lemmas.List.{map-append}
use Rattle.csv.specs.Writing.{default_writer, row_text}
use Rattle.pb_election.specs.Instance.{Instance, id_of, projects}
use Rattle.pb_election.specs.Text.{IsId}
use Rattle.pb_records.specs.Records.{Field, Rec, Text}
use Rattle.pb_certificate.specs.Prices.Canon.{line, lines}
use Rattle.pb_certificate.specs.Prices.{Prices}
use Rattle.pb_certificate.proofs.OnPrices.Canon.Lines.{IsPlain, decimal-plain, id-plain, row-line}
use Rattle.pb_price.specs.Margins.{AreMargins, margins_of_project}
use Rattle.pb_price.specs.declared.Margins.{Margins}
use Rattle.pb_price.specs.declared.ProjectMargins.{ProjectMargins}
use Rattle.pb_explain.specs.MarginTable.{flag_of, margin_head, margin_rows, row_of}

-- Fields.

flag_plain : (b : Bool) → IsPlain (flag_of b)
flag_plain true = refl
flag_plain false = refl

pub signed_plain : (z : ℤ) → SFits w128 z → IsPlain (signed_decimal z)
signed_plain (pos n) fits = decimal-plain n (omega (arith, fits.sfits))
signed_plain (negsuc n) fits = decimal-plain (suc n) (omega (arith, fits.sfits))

pub row_written : (id : Field) (m : ProjectMargins) → IsId id → IsPlain (decimal m.supporters)
    → IsPlain (decimal m.cost) → IsPlain (decimal m.paid) → IsPlain (signed_decimal m.left)
    → IsPlain (signed_decimal m.offer)
    → row_text default_writer (row_of id m) ≡ line (row_of id m)
row_written id m is s c p l o = grind (arith, row-line, id-plain, flag_plain)

-- The head.

pub head_written : (g : ℕ) (h0 h1 h2 h3 : Text) → g < 10 ^ 64
    → h1 ≡ h0 ++ row_text default_writer (codes "pb-margins" ∷ codes "1" ∷ [])
    → h2 ≡ h1 ++ row_text default_writer (codes "grains_per_unit" ∷ decimal g ∷ [])
    → h3 ≡ h2 ++ row_text default_writer
    (codes "project" ∷ codes "funded" ∷ codes "supporters" ∷ codes "cost" ∷ codes "paid" ∷ codes "left"
    ∷ codes "offer" ∷ [])
    → h3 ≡ h0 ++ lines (margin_head g)
head_written g h0 h1 h2 h3 small e1 e2 e3 =
    let name = row-line (codes "pb-margins") (codes "1") [] (refl, (refl, tt)) in
    let grains = row-line (codes "grains_per_unit") (decimal g) [] (refl, (decimal-plain g small, tt)) in
    let columns =
    row-line (codes "project") (codes "funded")
    (codes "supporters" ∷ codes "cost" ∷ codes "paid" ∷ codes "left" ∷ codes "offer" ∷ [])
    (refl, (refl, (refl, (refl, (refl, (refl, (refl, tt))))))) in
    pushed h0 h1 h2 h3 _ _ _ (e1 ∙ ap (λ (x : Text). h0 ++ x) name) (e2 ∙ ap (λ (x : Text). h1 ++ x) grains)
    (e3 ∙ ap (λ (x : Text). h2 ++ x) columns)
  where
    joined : (h a b c : Text) → ((h ++ a) ++ b) ++ c ≡ h ++ (a ++ (b ++ (c ++ [])))
    joined h a b c = simp (append_assoc, append-nil)

    pushed : (h0 h1 h2 h3 a b c : Text) → h1 ≡ h0 ++ a → h2 ≡ h1 ++ b → h3 ≡ h2 ++ c
        → h3 ≡ h0 ++ (a ++ (b ++ (c ++ [])))
    pushed h0 h1 h2 h3 a b c e1 e2 e3 = e3 ∙ ap (λ (x : Text). x ++ c) (e2 ∙ ap (λ (x : Text). x ++ b) e1)
        ∙ joined h0 a b c

-- The rows.

-- the figures of the project at a place of the list
at_place : {A : Type 0} (f : ℕ → A) (a n k : ℕ) (d : A) → k < n → get_or (map f (range_with_len a n)) k d ≡ f (a + k)
at_place f a zero k d h = absurd (omega arith)
at_place f a (suc n) zero d h = ap f (omega arith)
at_place f a (suc n) (suc k) d h = grind (arith, at_place f (a + 1) n k d)

pub as_many_rows : (e : Instance) (w : List Bool) (p : Prices) (m : Margins) → AreMargins e w p m
    → length m.projects.items ≡ projects e
as_many_rows e w p m are = ap length are.projects ∙ length-map-range_with_len (margins_of_project e w p) 1 (projects e)

-- one more row, that of the project at place k
pub row_pushed : (e : Instance) (w : List Bool) (p : Prices) (m : Margins) (k : ℕ) (d : ProjectMargins)
    (before after : Text) → AreMargins e w p m → k < projects e
    → before ≡ lines (margin_head m.grains_per_unit ++ margin_rows e w p (range_with_len 1 k))
    → after ≡ before ++ line (row_of (id_of e (k + 1)) (get_or m.projects.items k d))
    → after ≡ lines (margin_head m.grains_per_unit ++ margin_rows e w p (range_with_len 1 (k + 1)))
row_pushed e w p m k d before after are low b a =
    let next : k + 1 ≡ suc k = omega arith in
    let here : 1 + k ≡ k + 1 = omega arith in
    let row : ℕ → Rec = λ j. row_of (id_of e j) (margins_of_project e w p j) in
    let figures : get_or m.projects.items k d ≡ margins_of_project e w p (k + 1) =
    ap (λ (ms : List ProjectMargins). get_or ms k d) are.projects
    ∙ (at_place (margins_of_project e w p) 1 (projects e) k d low ∙ ap (margins_of_project e w p) here) in
    let head : List Rec = margin_head m.grains_per_unit in
    let others : List Rec = margin_rows e w p (range_with_len 1 k) in
    let range : range_with_len 1 (k + 1) ≡ range_with_len 1 k ++ ((k + 1) ∷ []) =
    ap (range_with_len 1) next ∙ (range-push 1 k ∙ ap (λ (j : ℕ). range_with_len 1 k ++ (j ∷ [])) here) in
    let rows : margin_rows e w p (range_with_len 1 (k + 1)) ≡ others ++ (row (k + 1) ∷ []) =
    ap (margin_rows e w p) range ∙ map-append row (range_with_len 1 k) ((k + 1) ∷ []) in
    a ∙ (ap (λ (x : Text). x ++ line (row_of (id_of e (k + 1)) (get_or m.projects.items k d))) b
    ∙ (ap (λ (f : ProjectMargins). lines (head ++ others) ++ line (row_of (id_of e (k + 1)) f)) figures
    ∙ (sym (lines-push (head ++ others) (row (k + 1)))
    ∙ ap lines (append_assoc head others (row (k + 1) ∷ []) ∙ ap (λ (x : List Rec). head ++ x) (sym rows)))))
