-- The first record that is not blank, by what is met first.
use Rattle.std.proofs.Common.{◌≡◌, ◌∙◌, ap, refl, [], ◌∷◌, ◌++◌, List, false}
use Rattle.std.specs.Prelude.{not, Some, None}
use Rattle.std.proofs.lemmas.List.Elements.{filter-append}
use Rattle.pb_records.specs.Records.{Rec}
use Rattle.pb_records.specs.Cells.{is_blank, nonblank}
use Rattle.pb_records.specs.Inside.Position.{MeetsEnd, MeetsNotText, MeetsRecord, Position}
use Rattle.pb_records.proofs.BlankText.{not-text-is-full}
use Rattle.pb_hints.specs.Kinds.{first_record, first_text}

-- it stands behind some blank records
behind-blanks : (recs blanks rest : List Rec) (r : Rec) → nonblank blanks ≡ [] → recs ≡ blanks ++ (r ∷ rest)
    → is_blank r ≡ false → first_record recs ≡ first_text (r ∷ [])
behind-blanks recs blanks rest r none cut full =
    let parts : nonblank (blanks ++ (r ∷ rest)) ≡ nonblank blanks ++ nonblank (r ∷ rest) =
    filter-append (λ x. not (is_blank x)) blanks (r ∷ rest) in
    let first : nonblank (r ∷ rest) ≡ r ∷ nonblank rest = rw full refl in
    let full-first : nonblank recs ≡ r ∷ nonblank rest = ap nonblank cut ∙ parts ∙ rw (none, first) refl in
    ap first_text full-first

pub with-record : (old new : Position) → MeetsRecord old new → first_record old.left ≡ Some new.row
with-record old new m =
    behind-blanks old.left m.blanks new.left new.row m.are_blank m.cut m.is_full ∙ rw m.is_utf8 refl

pub with-bytes : (old new : Position) → MeetsNotText old new → first_record old.left ≡ None
with-bytes old new m =
    behind-blanks old.left m.blanks m.rest m.bad m.are_blank m.cut (not-text-is-full m.bad m.is_not_utf8)
    ∙ rw m.is_not_utf8 refl

pub with-end : (old new : Position) → MeetsEnd old new → first_record old.left ≡ None
with-end old new m = rw m.are_blank refl
