-- The name of an entry.
use Rattle.std.proofs.Common.{◌≡◌, ◌∙◌, List, ℕ, ap, inl, inr, refl, sym, true}
use Rattle.std.specs.Prelude.{None, Some}
use Rattle.std.specs.Str.{IsUtf8, is_utf8}
use Rattle.std.proofs.lemmas.Bool.{cases_Bool}
use Rattle.std.proofs.lemmas.Str.{IsUtf8-from_is_utf8, is_utf8-from_IsUtf8}
use Rattle.pb_audit.specs.Names.{is_clean}
use Rattle.pb_c.specs.Folders.{name_of}

pub a_name : (bytes name : List ℕ) → name ≡ bytes → IsUtf8 bytes → is_clean name ≡ true → Some name ≡ name_of bytes
a_name bytes name is text clean =
    ap Some is ∙ rw (is_utf8-from_IsUtf8 bytes text, ap is_clean (sym is) ∙ clean) refl

pub no_text : (bytes : List ℕ) → (IsUtf8 bytes → ⊥) → None ≡ name_of bytes
no_text bytes never =
    elim (cases_Bool (is_utf8 bytes)) [
      | inl text ↦ absurd (never (IsUtf8-from_is_utf8 bytes text))
      | inr other ↦ rw other refl
    ]
