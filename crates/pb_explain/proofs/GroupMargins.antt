-- The table of margins of groups, as far as it has been written.
use Rattle.std.proofs.Common.{◌≡◌, ◌∙◌, ◌<◌, ◌≤◌, ◌+◌, ◌^◌, ℕ, List, [], ◌∷◌, ◌++◌, length, map, refl, sym, ap, arith, append_assoc, append-nil, get_or, take}
use Rattle.std.proofs.lemmas.List.{map_more, take_all}
use Rattle.std.specs.Prelude.{codes, decimal}
use Rattle.std.specs.Fmt.{signed_decimal}
use Rattle.csv.specs.Writing.{default_writer, row_text}
use Rattle.pb_election.specs.Instance.{Instance, id_of}
use Rattle.pb_election.specs.Text.{IsId}
use Rattle.pb_records.specs.Records.{Rec, Text}
use Rattle.pb_certificate.specs.Prices.Canon.{line, lines}
use Rattle.pb_certificate.specs.declared.violations.measure.Measure.{Measure}
use Rattle.pb_certificate.specs.declared.violations.measure.Measure.TheVariants.{ByCost, ByCount}
use Rattle.pb_certificate.proofs.OnPrices.Canon.Lines.{IsPlain, decimal-plain, id-plain, row-line}
use Rattle.pb_certificate.proofs.OnPrices.Canon.Written.{lines-push}
use Rattle.pb_cohesion.specs.declared.GroupFigures.{GroupFigures}
use Rattle.pb_explain.specs.GroupMargins.{group_margin_head, group_row, measure_name, missing_of}
use Rattle.pb_explain.specs.ShownGroup.{need_of, share_of}

measure_plain : (m : Measure) → IsPlain (measure_name m)
measure_plain ByCount = refl
measure_plain ByCost = refl

-- The head.

pub group_head_written : (m : Measure) (parts : ℕ) (h0 h1 h2 h3 h4 : Text) → parts < 10 ^ 64
    → h1 ≡ h0 ++ row_text default_writer (codes "pb-groups" ∷ codes "1" ∷ [])
    → h2 ≡ h1 ++ row_text default_writer (codes "satisfaction" ∷ measure_name m ∷ [])
    → h3 ≡ h2 ++ row_text default_writer (codes "denominator" ∷ decimal parts ∷ [])
    → h4 ≡ h3 ++ row_text default_writer
    (codes "project" ∷ codes "voters" ∷ codes "most" ∷ codes "need" ∷ codes "share" ∷ codes "missing" ∷ [])
    → h4 ≡ h0 ++ lines (group_margin_head m parts)
group_head_written m parts h0 h1 h2 h3 h4 small e1 e2 e3 e4 =
    let name = row-line (codes "pb-groups") (codes "1") [] (refl, (refl, tt)) in
    let measure = row-line (codes "satisfaction") (measure_name m) [] (refl, (measure_plain m, tt)) in
    let denominator = row-line (codes "denominator") (decimal parts) [] (refl, (decimal-plain parts small, tt)) in
    let columns =
    row-line (codes "project") (codes "voters") (codes "most" ∷ codes "need" ∷ codes "share" ∷ codes "missing" ∷ [])
    (refl, (refl, (refl, (refl, (refl, (refl, tt)))))) in
    pushed h0 h1 h2 h3 h4 _ _ _ _ (e1 ∙ ap (λ (x : Text). h0 ++ x) name) (e2 ∙ ap (λ (x : Text). h1 ++ x) measure)
    (e3 ∙ ap (λ (x : Text). h2 ++ x) denominator) (e4 ∙ ap (λ (x : Text). h3 ++ x) columns)
  where
    joined : (h a b c d : Text) → (((h ++ a) ++ b) ++ c) ++ d ≡ h ++ (a ++ (b ++ (c ++ (d ++ []))))
    joined h a b c d = simp (append_assoc, append-nil)

    pushed : (h0 h1 h2 h3 h4 a b c d : Text) → h1 ≡ h0 ++ a → h2 ≡ h1 ++ b → h3 ≡ h2 ++ c → h4 ≡ h3 ++ d
        → h4 ≡ h0 ++ (a ++ (b ++ (c ++ (d ++ []))))
    pushed h0 h1 h2 h3 h4 a b c d e1 e2 e3 e4 =
        e4
        ∙ ap (λ (x : Text). x ++ d)
        (e3 ∙ ap (λ (x : Text). x ++ c) (e2 ∙ ap (λ (x : Text). x ++ b) e1))
        ∙ joined h0 a b c d

-- The rows.

pub group_row_written : (e : Instance) (x : GroupFigures) → IsId (id_of e x.project) → IsPlain (decimal x.voters)
    → IsPlain (decimal x.most) → IsPlain (decimal (need_of e x)) → IsPlain (decimal (share_of e x))
    → IsPlain (signed_decimal (missing_of e x))
    → row_text default_writer (group_row e x) ≡ line (group_row e x)
group_row_written e x is v m n s z = grind (arith, row-line, id-plain)

-- one more row
pub group_row_pushed : (e : Instance) (head : List Rec) (xs : List GroupFigures) (k : ℕ) (d : GroupFigures)
    (before after : Text) → k < length xs
    → before ≡ lines (head ++ map (group_row e) (take k xs))
    → after ≡ before ++ line (group_row e (get_or xs k d))
    → after ≡ lines (head ++ map (group_row e) (take (k + 1) xs))
group_row_pushed e head xs k d before after low b a =
    let row : Rec = group_row e (get_or xs k d) in
    let others : List Rec = map (group_row e) (take k xs) in
    let rows : map (group_row e) (take (k + 1) xs) ≡ others ++ (row ∷ []) = map_more (group_row e) xs k d low in
    a ∙ (ap (λ (x : Text). x ++ line row) b
    ∙ (sym (lines-push (head ++ others) row)
    ∙ ap lines (append_assoc head others (row ∷ []) ∙ ap (λ (x : List Rec). head ++ x) (sym rows))))

-- all rows
pub group_rows_written : (e : Instance) (head : List Rec) (xs : List GroupFigures) (k : ℕ) (text : Text)
    → length xs ≤ k → text ≡ lines (head ++ map (group_row e) (take k xs))
    → text ≡ lines (head ++ map (group_row e) xs)
group_rows_written e head xs k text past is =
    is ∙ ap (λ (ys : List GroupFigures). lines (head ++ map (group_row e) ys)) (take_all k xs past)
