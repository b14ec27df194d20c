-- Where no fault stands among the records that are not blank, none stands at any place.
use Rattle.std.proofs.Common.{◌≡◌, ◌∙◌, ℕ, zero, suc, ◌≤◌, Bool, true, false, cond, List, [], ◌∷◌, ◌++◌, length, refl, sym, subst, arith, Some, None, append_assoc, append-nil}
use Rattle.std.specs.Prelude.{not, take, slice_get}
use Rattle.std.proofs.lemmas.List.Elements.{filter-append}
use Rattle.pb_records.specs.Records.{Rec}
use Rattle.pb_records.specs.Cells.{is_blank, nonblank}
use Rattle.pb_records.specs.FirstFault.{Form, IsFirstFault, NoFault, fault_after, fault_at}
use Rattle.pb_records.proofs.FirstOrNone.{fault-last}

-- no fault stands from here on, after the records before that are not blank
abbrev pub ClearFrom : {F : Type 0} → Form F → List Rec → List Rec → Type 0
ClearFrom form before [] = form before None ≡ None
ClearFrom form before (r ∷ rs) = (form before (Some r) ≡ None) × ClearFrom form (before ++ (r ∷ [])) rs

none-anywhere : {F : Type 0} (form : Form F) (pre recs : List Rec) → ClearFrom form (nonblank pre) (nonblank recs)
    → (k : ℕ) → k ≤ length recs → fault_after form (pre ++ take k recs) (slice_get recs k) ≡ None
none-anywhere form pre [] h zero within = rw append-nil h
none-anywhere form pre [] h (suc k) within = absurd (omega arith)
none-anywhere form pre (r ∷ rs) h zero within = grind (arith, append-nil)
none-anywhere form pre (r ∷ rs) h (suc k) within =
    let rest = none-anywhere form (pre ++ (r ∷ [])) rs (go (is_blank r) refl h) k (omega arith) in
    subst (λ (xs : List Rec). fault_after form xs (slice_get rs k) ≡ None) (append_assoc pre (r ∷ []) (take k rs)) rest
  where
    joined : nonblank (pre ++ (r ∷ [])) ≡ nonblank pre ++ nonblank (r ∷ [])
    joined = filter-append (λ x. not (is_blank x)) pre (r ∷ [])

    go : (b : Bool) → is_blank r ≡ b → ClearFrom form (nonblank pre) (cond (not b) (r ∷ nonblank rs) (nonblank rs))
        → ClearFrom form (nonblank (pre ++ (r ∷ []))) (nonblank rs)
    go true e k = rw (joined, e, append-nil) k
    go false e k = rw (joined, e) k.1

-- so nothing is refused
pub none-refused : {F : Type 0} (form : Form F) (recs : List Rec) → ClearFrom form [] (nonblank recs)
    → (record_number : ℕ) (f : F) → IsFirstFault form recs record_number f → ⊥
none-refused form recs h zero f r = let some : Some f ≡ None = sym r.here in cc
none-refused form recs h (suc k) f r =
    let none : fault_at form recs (suc k) ≡ None = none-anywhere form [] recs h k (omega arith) in
    cc

-- where no fault stands anywhere, none stands at the end
pub none-at-end : {F : Type 0} (form : Form F) (recs : List Rec) → NoFault form recs → form (nonblank recs) None ≡ None
none-at-end form recs none = sym (fault-last form recs) ∙ none (suc (length recs))
