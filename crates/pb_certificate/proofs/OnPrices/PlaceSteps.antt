-- A cursor that goes on behind records at which no fault stands.
use Rattle.std.proofs.Common.{◌≡◌, ◌∙◌, ◌≤◌, ◌+◌, ◌-◌, ℕ, suc, true, false, List, [], ◌∷◌, ◌++◌, length, refl, sym, ap, subst, arith, Some, None, append_assoc, append-nil, length-append, take}
use Rattle.std.specs.Prelude.{not}
use Rattle.std.specs.List.{AllByRecursion}
use Rattle.std.proofs.lemmas.List.{take_all, take-append-drop, length-take-le}
use Rattle.std.proofs.lemmas.List.Elements.{filter-append}
use Rattle.std.proofs.lemmas.Option.{slice_get_past}
use Rattle.std.proofs.Math.Seq.{take-append_seam, drop-append_seam}
use Rattle.pb_records.specs.Records.{Rec}
use Rattle.pb_records.specs.Cells.{is_blank, is_text, nonblank}
use Rattle.pb_records.specs.FirstFault.{Form, fault_at}
use Rattle.pb_records.specs.Inside.Position.{MeetsEnd, MeetsNotText, MeetsRecord, Position}
use Rattle.pb_records.proofs.Each.{all-push}
use Rattle.pb_records.proofs.FirstOrNone.{form-here}
use Rattle.pb_records.proofs.DraftProgress.{fault-here}
use Rattle.pb_certificate.specs.Inside.Prices.Places.{RefusedBehind, StandsBehind}
use Rattle.pb_certificate.specs.declared.refusal.CertFault.{CertFault}

-- Clear places.

one-more : (form : Form CertFault) (recs : List Rec) (n : ℕ) → ((k : ℕ) → k ≤ n → fault_at form recs k ≡ None)
    → fault_at form recs (n + 1) ≡ None → (k : ℕ) → k ≤ n + 1 → fault_at form recs k ≡ None
one-more form recs n h here k le = grind arith

blank-first : (b : Rec) (bs : List Rec) → nonblank (b ∷ bs) ≡ [] → (is_blank b ≡ true) × (nonblank bs ≡ [])
blank-first b bs h = grind arith

-- blank records have no fault
clear-blanks : (form : Form CertFault) (taken blanks tail : List Rec) → nonblank blanks ≡ []
    → ((k : ℕ) → k ≤ length taken → fault_at form (taken ++ (blanks ++ tail)) k ≡ None)
    → (k : ℕ) → k ≤ length taken + length blanks → fault_at form (taken ++ (blanks ++ tail)) k ≡ None
clear-blanks form taken [] tail none h k le = h k (omega arith)
clear-blanks form taken (b ∷ bs) tail none h k le =
    let parts = blank-first b bs none in
    let here : fault_at form (taken ++ (b ∷ (bs ++ tail))) (length taken + 1) ≡ None =
    fault-here form (taken ++ (b ∷ (bs ++ tail))) taken (bs ++ tail) b refl ∙ rw parts.0 refl in
    let joined : (taken ++ (b ∷ [])) ++ (bs ++ tail) ≡ taken ++ (b ∷ (bs ++ tail)) =
    append_assoc taken (b ∷ []) (bs ++ tail) in
    let many : length (taken ++ (b ∷ [])) ≡ length taken + 1 = length-append taken (b ∷ []) in
    let clear = one-more form (taken ++ (b ∷ (bs ++ tail))) (length taken) h here in
    let rest = clear-blanks form (taken ++ (b ∷ [])) bs tail parts.1 (λ i l. rw joined (clear i (omega arith))) k
    (omega arith) in
    rw joined at rest

pub nonblank-joined : (xs ys : List Rec) → nonblank (xs ++ ys) ≡ nonblank xs ++ nonblank ys
nonblank-joined xs ys = filter-append (λ x. not (is_blank x)) xs ys

-- The records behind a cursor, and those that come.
record Cut (form : Form CertFault) (recs : List Rec) (c : Position) (before : List Rec) : Type 0 where
  taken : List Rec
  cut : recs ≡ taken ++ c.left
  many : length taken ≡ c.record_number
  behind : nonblank taken ≡ before
  clear : (k : ℕ) → k ≤ length taken → fault_at form recs k ≡ None

cut-of : (form : Form CertFault) (recs : List Rec) (c : Position) (before : List Rec) → StandsBehind form recs c before
    → Cut form recs c before
cut-of form recs c before s = grind (arith, length-take-le, take-append-drop)

-- a cursor that has gone over some records
stands : (form : Form CertFault) (recs taken : List Rec) (c : Position) (before : List Rec) → recs ≡ taken ++ c.left
    → length taken ≡ c.record_number → nonblank taken ≡ before
    → AllByRecursion (λ r. is_text r ≡ true) before → ((k : ℕ) → k ≤ length taken → fault_at form recs k ≡ None)
    → StandsBehind form recs c before
stands form recs taken c before cut many behind text clear =
    grind (arith, length-append, drop-append_seam, take-append_seam)

-- Going on.

-- what lies before a record that comes next
record Before (form : Form CertFault) (recs : List Rec) (old : Position) (blanks tail : List Rec)
    (before : List Rec) : Type 0 where
  taken : List Rec
  cut : recs ≡ taken ++ tail
  many : length taken ≡ old.record_number + length blanks
  behind : nonblank taken ≡ before
  clear : (k : ℕ) → k ≤ length taken → fault_at form recs k ≡ None

before-of : (form : Form CertFault) (recs : List Rec) (old : Position) (blanks tail before : List Rec)
    → StandsBehind form recs old before → nonblank blanks ≡ [] → old.left ≡ blanks ++ tail
    → Before form recs old blanks tail before
before-of form recs old blanks tail before s none next =
    let c = cut-of form recs old before s in
    let long : recs ≡ c.taken ++ (blanks ++ tail) = c.cut ∙ ap (λ (xs : List Rec). c.taken ++ xs) next in
    let record_number : length (c.taken ++ blanks) ≡ length c.taken + length blanks = length-append c.taken blanks in
    let clear =
    clear-blanks form c.taken blanks tail none
    (λ k le. subst (λ (xs : List Rec). fault_at form xs k ≡ None) long (c.clear k le)) in
    record {
      taken = c.taken ++ blanks;
      cut = long ∙ sym (append_assoc c.taken blanks tail);
      many = record_number ∙ ap (λ (n : ℕ). n + length blanks) c.many;
      behind = nonblank-joined c.taken blanks ∙ ap (λ (xs : List Rec). nonblank c.taken ++ xs) none
          ∙ append-nil (nonblank c.taken) ∙ c.behind;
      clear = λ k le. subst (λ (xs : List Rec). fault_at form xs k ≡ None) (sym long) (clear k (omega arith));
    }

-- behind a record that has no fault
pub goes-behind : (form : Form CertFault) (recs : List Rec) (old new : Position) (before : List Rec)
    → StandsBehind form recs old before → MeetsRecord old new → form before (Some new.row) ≡ None
    → StandsBehind form recs new (before ++ (new.row ∷ []))
goes-behind form recs old new before s m none =
    let b = before-of form recs old m.blanks (new.row ∷ new.left) before s m.are_blank m.cut in
    let many : length (b.taken ++ (new.row ∷ [])) ≡ length b.taken + 1 = length-append b.taken (new.row ∷ []) in
    let here = form-here form recs b.taken new.left before new.row b.cut b.behind m.is_full ∙ none in
    let clear = one-more form recs (length b.taken) b.clear here in
    let full : nonblank (new.row ∷ []) ≡ new.row ∷ [] = rw m.is_full refl in
    stands form recs (b.taken ++ (new.row ∷ [])) new (before ++ (new.row ∷ []))
    (b.cut ∙ sym (append_assoc b.taken (new.row ∷ []) new.left)) (omega arith)
    (nonblank-joined b.taken (new.row ∷ []) ∙ ap (λ (xs : List Rec). nonblank b.taken ++ xs) full
    ∙ ap (λ (xs : List Rec). xs ++ (new.row ∷ [])) b.behind)
    (all-push (λ r. is_text r ≡ true) before new.row s.text m.is_utf8) (λ k le. clear k (omega arith))

-- the fault of a record that comes next
refused-by : (form : Form CertFault) (recs : List Rec) (old : Position) (blanks rest before : List Rec) (r : Rec)
    (f : CertFault) (record_number : ℕ) → StandsBehind form recs old before → nonblank blanks ≡ []
    → old.left ≡ blanks ++ (r ∷ rest) → is_blank r ≡ false → record_number ≡ old.record_number + length blanks + 1
    → form before (Some r) ≡ Some f → RefusedBehind form recs before (record { fault = f; record_number = record_number })
refused-by form recs old blanks rest before r f record_number s none cut full at is =
    let b = before-of form recs old blanks (r ∷ rest) before s none cut in
    let long : length recs ≡ length b.taken + length (r ∷ rest) = ap length b.cut ∙ length-append b.taken (r ∷ rest) in
    let here = form-here form recs b.taken rest before r b.cut b.behind full ∙ is in
    let same : length b.taken + 1 ≡ record_number = omega arith in
    let less : length b.taken ≡ record_number - 1 = omega arith in
    record {
      first =
          record {
            within = omega arith;
            here = subst (λ (n : ℕ). fault_at form recs n ≡ Some f) same here;
            none_before = λ k lt. b.clear k (omega arith);
          };
      behind = ap (λ (xs : List Rec). nonblank (take (record_number - 1) xs)) b.cut
          ∙ ap (λ (n : ℕ). nonblank (take n (b.taken ++ (r ∷ rest)))) (sym less)
          ∙ ap nonblank (take-append_seam b.taken (r ∷ rest)) ∙ b.behind;
    }

pub refused-at : (form : Form CertFault) (recs : List Rec) (old new : Position) (before : List Rec) (f : CertFault)
    → StandsBehind form recs old before → MeetsRecord old new → form before (Some new.row) ≡ Some f
    → RefusedBehind form recs before (record { fault = f; record_number = new.record_number })
refused-at form recs old new before f s m is =
    refused-by form recs old m.blanks new.left before new.row f new.record_number s m.are_blank m.cut m.is_full m.at is

pub refused-bytes : (form : Form CertFault) (recs : List Rec) (old new : Position) (before : List Rec) (f : CertFault)
    → StandsBehind form recs old before → (m : MeetsNotText old new) → is_blank m.bad ≡ false
    → form before (Some m.bad) ≡ Some f → RefusedBehind form recs before (record { fault = f; record_number = new.record_number })
refused-bytes form recs old new before f s m full is =
    refused-by form recs old m.blanks m.rest before m.bad f new.record_number s m.are_blank m.cut full m.at is

-- the end
pub at-end : (form : Form CertFault) (recs : List Rec) (old new : Position) (before : List Rec)
    → StandsBehind form recs old before → MeetsEnd old new
    → StandsBehind form recs new before × (nonblank recs ≡ before) × (new.record_number ≡ length recs)
at-end form recs old new before s m =
    let b = before-of form recs old old.left [] before s m.are_blank (sym (append-nil old.left)) in
    let all : recs ≡ b.taken = b.cut ∙ append-nil b.taken in
    let record_number : new.record_number ≡ old.record_number + length old.left = m.at in (
      stands form recs b.taken new before (b.cut ∙ ap (λ (xs : List Rec). b.taken ++ xs) (sym m.none_left))
          (omega arith) b.behind s.text b.clear,
      ap nonblank all ∙ b.behind,
      (let long : length recs ≡ length b.taken = ap length all in omega arith),
    )

pub refused-end : (form : Form CertFault) (recs : List Rec) (old new : Position) (before : List Rec) (f : CertFault)
    → StandsBehind form recs old before → MeetsEnd old new → form before None ≡ Some f
    → RefusedBehind form recs before (record { fault = f; record_number = new.record_number + 1 })
refused-end form recs old new before f s m is =
    let end = at-end form recs old new before s m in
    let record_number : new.record_number ≡ length recs = end.2 in
    let same : suc (length recs) ≡ new.record_number + 1 = omega arith in
    let less : length recs ≡ new.record_number + 1 - 1 = omega arith in
    let all : take (length recs) recs ≡ recs = take_all (length recs) recs (omega arith) in
    let here : fault_at form recs (suc (length recs)) ≡ Some f =
    rw (slice_get_past recs (length recs) (omega arith), all, end.1) is in
    record {
      first =
          record {
            within = omega arith;
            here = subst (λ (n : ℕ). fault_at form recs n ≡ Some f) same here;
            none_before = λ k lt. end.0.clear k (omega arith);
          };
      behind = ap (λ (n : ℕ). nonblank (take n recs)) (sym less) ∙ ap nonblank all ∙ end.1;
    }
