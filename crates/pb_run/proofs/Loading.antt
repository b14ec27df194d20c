-- The files of one name more.
use Rattle.std.proofs.Common.{◌≡◌, ◌∙◌, ◌++◌, ◌∷◌, [], List, ap, append_assoc, refl, sym, subst, map}
use Rattle.std.proofs.lemmas.List.{map-append}
use Rattle.pb_audit.specs.Reports.{EntryFiles}
use Rattle.pb_records.specs.Loading.{Delivery}
use Rattle.pb_records.specs.Records.{Text}
use Rattle.pb_run.specs.Folders.{LoadsEach, LoadsEntry}
use Rattle.pb_run.specs.declared.listing.Listing.{Listing}

pub one_name_more : {S I : Type 0} (hands : S → S → Text → I → Type 0) (delivers : I → I → Delivery → Type 0)
    (folder : Text) (l : Listing) (names : List Text) (name : Text) (old mid new : S) (entries : List EntryFiles) (files : EntryFiles)
    → LoadsEach hands delivers folder l names old mid entries
    → LoadsEntry hands delivers folder l name mid new files
    → LoadsEach hands delivers folder l (names ++ name ∷ []) old new (entries ++ files ∷ [])
one_name_more hands delivers folder l [] name old mid new [] files each entry =
    (new, subst (λ s. LoadsEntry hands delivers folder l name s new files) each entry, refl)
one_name_more hands delivers folder l [] name old mid new (e ∷ es) files each entry = absurd each
one_name_more hands delivers folder l (n ∷ ns) name old mid new [] files each entry = absurd each
one_name_more hands delivers folder l (n ∷ ns) name old mid new (e ∷ es) files each entry =
    (each.0, each.1, one_name_more hands delivers folder l ns name each.0 mid new es files each.2 entry)

-- the same of values that show texts
pub one_shown_more : {S I X : Type 0} (text : X → Text) (hands : S → S → Text → I → Type 0)
    (delivers : I → I → Delivery → Type 0) (folder : Text) (l : Listing) (names : List X) (name : X) (shown : Text)
    (old mid new : S) (entries : List EntryFiles) (files : EntryFiles)
    → shown ≡ text name
    → LoadsEach hands delivers folder l (map text names) old mid entries
    → LoadsEntry hands delivers folder l shown mid new files
    → LoadsEach hands delivers folder l (map text (names ++ name ∷ [])) old new (entries ++ files ∷ [])
one_shown_more text hands delivers folder l names name shown old mid new entries files is_shown each entry =
    subst (λ (ns : List Text). LoadsEach hands delivers folder l ns old new (entries ++ files ∷ []))
    (sym (map-append text names (name ∷ []) ∙ ap (λ (t : Text). map text names ++ t ∷ []) (sym is_shown)))
    (one_name_more hands delivers folder l (map text names) shown old mid new entries files each entry)

-- one more was taken of what is left
pub one_left_less : {X : Type 0} (all done left rest : List X) (x : X)
    → all ≡ done ++ left → left ≡ x ∷ rest → all ≡ (done ++ x ∷ []) ++ rest
one_left_less all done left rest x split step =
    split ∙ ap (λ l. done ++ l) step ∙ sym (append_assoc done (x ∷ []) rest)
