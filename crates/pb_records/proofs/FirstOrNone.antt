-- Records have a first fault or none; and where they have none, what each record keeps holds of all.
use Rattle.std.proofs.Common.{◌≡◌, ◌∙◌, ◌<◌, ◌+◌, ℕ, zero, suc, Bool, true, false, List, [], ◌∷◌, ◌++◌, length, refl, sym, ap, inl, inr, arith, Option, Some, None, append_assoc, append-nil}
use Rattle.std.specs.Prelude.{◌⊎◌}
use Rattle.std.proofs.lemmas.Bool.{cases_lt}
use Rattle.std.proofs.lemmas.List.{take_all}
use Rattle.std.proofs.lemmas.Option.{slice_get_past}
use Rattle.pb_records.specs.Records.{Rec}
use Rattle.pb_records.specs.Cells.{is_blank, nonblank}
use Rattle.pb_records.specs.FirstFault.{Form, IsFirstFault, NoFault, fault_at}
use Rattle.pb_records.proofs.DraftProgress.{fault-here, nonblank-blank, nonblank-more}

-- the fault at a record that isn't blank, and at the end
pub form-here : {F : Type 0} (form : Form F) (recs taken rest before : List Rec) (r : Rec) → recs ≡ taken ++ r ∷ rest
    → nonblank taken ≡ before → is_blank r ≡ false → fault_at form recs (length taken + 1) ≡ form before (Some r)
form-here form recs taken rest before r cut behind full =
    fault-here form recs taken rest r cut ∙ rw full (ap (λ (xs : List Rec). form xs (Some r)) behind)

pub fault-last : {F : Type 0} (form : Form F) (recs : List Rec)
    → fault_at form recs (suc (length recs)) ≡ form (nonblank recs) None
fault-last form recs = grind (arith, take_all, slice_get_past)

abbrev pub HasFirst : {F : Type 0} → Form F → List Rec → Type 0
HasFirst {F} form recs = (record_number : ℕ) × (f : F) × IsFirstFault form recs record_number f

-- no fault stands at the first so many places
abbrev Clear : {F : Type 0} → Form F → List Rec → ℕ → Type 0
Clear form recs n = (k : ℕ) → k < n → fault_at form recs k ≡ None

clear-more : {F : Type 0} (form : Form F) (recs : List Rec) (n : ℕ) → Clear form recs n → fault_at form recs n ≡ None
    → Clear form recs (suc n)
clear-more form recs n h here k l = grind arith

-- behind the end nothing stands that doesn't stand there
none-behind : {F : Type 0} (form : Form F) (recs : List Rec) → Clear form recs (length recs + 2) → NoFault form recs
none-behind form recs h k = grind (arith, cases_lt, take_all, slice_get_past, fault-last)

search-from : {F : Type 0} (form : Form F) (recs : List Rec) (left n : ℕ) → n + left ≡ length recs + 2
    → Clear form recs n → NoFault form recs ⊎ HasFirst form recs
search-from form recs zero n e h = inl (none-behind form recs (λ k l. h k (omega arith)))
search-from {F} form recs (suc left) n e h =
    by (fault_at form recs n) refl (λ more. search-from form recs left (suc n) (omega arith) more)
  where
    by : (o : Option F) → fault_at form recs n ≡ o
        → (Clear form recs (suc n) → NoFault form recs ⊎ HasFirst form recs) → NoFault form recs ⊎ HasFirst form recs
    by None here go = go (clear-more form recs n h here)
    by (Some f) here go = inr (n, f, record { within = omega arith; here = here; none_before = h })

pub first-or-none : {F : Type 0} (form : Form F) (recs : List Rec) → NoFault form recs ⊎ HasFirst form recs
first-or-none form recs = search-from form recs (length recs + 2) 0 (omega arith) (λ k l. absurd (omega arith))

-- what holds of no record, and goes on holding where a record without a fault is added
pub record Kept {F : Type 0} (form : Form F) (Holds : List Rec → Type 0) : Type 0 where
  pub start : Holds []
  pub more : (before : List Rec) (r : Rec) → Holds before → form before (Some r) ≡ None → Holds (before ++ (r ∷ []))

kept-from : {F : Type 0} (form : Form F) (Holds : List Rec → Type 0) (recs taken left : List Rec) → Kept form Holds
    → NoFault form recs → recs ≡ taken ++ left → Holds (nonblank taken) → Holds (nonblank recs)
kept-from form Holds recs taken [] kept none cut h = rw (cut ∙ append-nil taken) h
kept-from form Holds recs taken (r ∷ rest) kept none cut h =
    kept-from form Holds recs (taken ++ (r ∷ [])) rest kept none (cut ∙ sym (append_assoc taken (r ∷ []) rest))
    (by (is_blank r) refl)
  where
    by : (b : Bool) → is_blank r ≡ b → Holds (nonblank (taken ++ (r ∷ [])))
    by true blank = rw (nonblank-blank taken r blank) h
    by false full =
        let clear = sym (form-here form recs taken rest (nonblank taken) r cut refl full) ∙ none (length taken + 1) in
        rw (nonblank-more taken r full) (kept.more (nonblank taken) r h clear)

pub kept-to-end : {F : Type 0} (form : Form F) (Holds : List Rec → Type 0) (recs : List Rec) → Kept form Holds
    → NoFault form recs → Holds (nonblank recs)
kept-to-end form Holds recs kept none = kept-from form Holds recs [] recs kept none refl kept.start
