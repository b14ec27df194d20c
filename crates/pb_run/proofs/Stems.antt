-- Names and their endings.
use Rattle.std.proofs.Common.{◌≡◌, ◌∙◌, ◌++◌, ℕ, List, Bool, true, false, ap, sym, refl, inl, inr}
use Rattle.std.proofs.lemmas.Bool.{cases_Bool}
use Rattle.std.proofs.lemmas.List.{append_cancel_right}
use Rattle.std.proofs.lemmas.Slice.Eq.{bytes_eq-Decides}
use Rattle.std.specs.BTreeSet.{BTreeSet, Updates, contains_text}
use Rattle.std.specs.Global.{Global}
use Rattle.std.specs.Prelude.{◌&&◌, ◌||◌, cond, string_bytes}
use Rattle.std.specs.Str.{bytes_eq}
use Rattle.std.specs.String.{string_cmp}
use Rattle.std.specs.declared.string.String.{String}
use Rattle.std.proofs.lemmas.Map.Text.{btree_set_updates_text}
use Rattle.pb_audit.specs.Names.{is_clean}
use Rattle.pb_run.specs.Listings.{Entry, is_file_of}

no-file : (a b : Bool) → (a && b && false) ≡ false
no-file true true = refl
no-file true false = refl
no-file false b = refl

pub same_stem : (stem name ending : List ℕ) → bytes_eq (stem ++ ending) (name ++ ending) ≡ bytes_eq stem name
same_stem stem name ending =
    elim (cases_Bool (bytes_eq stem name)) [
      | inl e ↦
          (bytes_eq-Decides (stem ++ ending) (name ++ ending)).1
          (ap (λ s. s ++ ending) ((bytes_eq-Decides stem name).0 e))
          ∙ sym e
      | inr e ↦
          elim (cases_Bool (bytes_eq (stem ++ ending) (name ++ ending))) [
            | inl t ↦
                t
                ∙ sym
                ((bytes_eq-Decides stem name).1
                (append_cancel_right stem name ending
                ((bytes_eq-Decides (stem ++ ending) (name ++ ending)).0 t)))
            | inr f ↦ f ∙ sym e
          ]
    ]

-- a file whose name is a clean stem and this ending
pub is_stem : (ending name stem : List ℕ) (entry : Entry) → entry.is_file ≡ true → entry.name ≡ stem ++ ending
    → is_clean stem ≡ true → is_file_of ending name entry ≡ bytes_eq stem name
is_stem ending name stem entry file named clean =
    elim (cases_Bool (bytes_eq stem name)) [
      | inl e ↦
          let same : is_clean name ≡ true = ap is_clean (sym ((bytes_eq-Decides stem name).0 e)) ∙ clean in
          rw (file, named, same_stem stem name ending, e, same) refl
      | inr e ↦ rw (file, named, same_stem stem name ending, e) (no-file (is_clean name) true)
    ]

-- a file whose name isn't clean without the ending
pub not_clean : (ending name stem : List ℕ) (entry : Entry) → entry.name ≡ stem ++ ending
    → is_clean stem ≡ false → is_file_of ending name entry ≡ false
not_clean ending name stem entry named unclean =
    elim (cases_Bool (bytes_eq stem name)) [
      | inl e ↦ rw (ap is_clean (sym ((bytes_eq-Decides stem name).0 e)) ∙ unclean) refl
      | inr e ↦ rw (named, same_stem stem name ending, e) (no-file (is_clean name) entry.is_file)
    ]

cond-or : (a b : Bool) → cond a true b ≡ (a || b)
cond-or true b = refl
cond-or false b = refl

-- a name was put into a set
pub one_more : (old new : BTreeSet (String Global)) (key : String Global) (name : List ℕ)
    → Updates string_cmp old new key true
    → contains_text new name ≡ (bytes_eq (string_bytes key) name || contains_text old name)
one_more old new key name updates =
    btree_set_updates_text (string_bytes key) old new true updates name
    ∙ cond-or (bytes_eq (string_bytes key) name) (contains_text old name)
