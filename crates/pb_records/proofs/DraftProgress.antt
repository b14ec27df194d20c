-- How far the records of a file have been taken into a draft that a cursor feeds.
use Rattle.std.proofs.Common.{◌≡◌, ◌≤◌, ◌<◌, ◌∙◌, ◌+◌, ◌++◌, ℕ, suc, zero, List, [], ◌∷◌, refl, sym, arith, Bool, true, false, Some, None, append_assoc, append-nil, length, length-append, below_more, add-one}
use Rattle.std.specs.Prelude.{nat_lt, not}
use Rattle.std.proofs.lemmas.List.{take_all}
use Rattle.std.proofs.lemmas.Bool.Decides.{nat_tests}
use Rattle.std.proofs.lemmas.List.Elements.{filter-append}
use Rattle.std.proofs.lemmas.Option.{slice_get_past}
use Rattle.std.proofs.Math.Seq.{take-append_seam}
use Rattle.pb_records.specs.Records.{Rec}
use Rattle.pb_records.specs.Cells.{is_blank, nonblank}
use Rattle.pb_records.specs.Inside.Drafts.{Takes, TellsEnd, TellsNotText}
use Rattle.pb_records.specs.Inside.Position.{MeetsEnd, MeetsNotText, MeetsRecord, Position}
use Rattle.pb_records.proofs.BlankText.{not-text-is-full}
use Rattle.pb_records.specs.FirstFault.{Form, IsFirstFault, NoFault, fault_after, fault_at}
use Rattle.pb_records.proofs.Lists.{get-seam}

-- the records before these are taken, and no fault stands among them; `has` says what they left
pub record Progress {F : Type 0} (form : Form F) (has : List Rec → Type 0) (recs left : List Rec) (record_number : ℕ) : Type
    0 where
  pub taken : List Rec
  pub split : recs ≡ taken ++ left
  pub count : record_number ≡ length taken
  pub none : (k : ℕ) → k < record_number + 1 → fault_at form recs k ≡ None
  pub done : has (nonblank taken)

pub nonblank-blank : (recs : List Rec) (r : Rec) → is_blank r ≡ true → nonblank (recs ++ (r ∷ [])) ≡ nonblank recs
nonblank-blank recs r e = filter-append (λ x. not (is_blank x)) recs (r ∷ []) ∙ rw e (append-nil (nonblank recs))

pub nonblank-more : (recs : List Rec) (r : Rec) → is_blank r ≡ false
    → nonblank (recs ++ (r ∷ [])) ≡ nonblank recs ++ (r ∷ [])
nonblank-more recs r e = filter-append (λ x. not (is_blank x)) recs (r ∷ []) ∙ rw e refl

plus-zero : (n : ℕ) → n + 0 ≡ n
plus-zero n = omega arith

plus-suc : (n k : ℕ) → n + suc k ≡ n + 1 + k
plus-suc n k = omega arith

pub fault-here : {F : Type 0} (form : Form F) (recs taken rest : List Rec) (r : Rec) → recs ≡ taken ++ r ∷ rest
    → fault_at form recs (length taken + 1) ≡ fault_after form taken (Some r)
fault-here form recs taken rest r e =
    rw (e, add-one (length taken), get-seam taken rest r, take-append_seam taken (r ∷ rest)) refl

below-more : (k record_number : ℕ) → nat_lt k record_number ≡ true → suc k < record_number + 1
below-more k record_number l = let h : k < record_number = grind (arith, nat_tests) in omega arith

past : (k record_number n : ℕ) → nat_lt k record_number ≡ false → record_number ≡ n → n ≤ k
past k record_number n l e = let h : record_number ≤ k = grind (arith, nat_tests) in omega arith

-- the records after one more
more : {F : Type 0} (form : Form F) (has : List Rec → Type 0) (recs taken rest : List Rec) (r : Rec) (record_number : ℕ)
    → recs ≡ taken ++ r ∷ rest → record_number ≡ length taken
    → ((k : ℕ) → k < record_number + 1 → fault_at form recs k ≡ None) → fault_after form taken (Some r) ≡ None
    → has (nonblank (taken ++ (r ∷ []))) → Progress form has recs rest (record_number + 1)
more form has recs taken rest r record_number split count none here h =
    record {
      taken = taken ++ (r ∷ []);
      split = split ∙ sym (append_assoc taken (r ∷ []) rest);
      count = omega (arith, length-append taken (r ∷ []));
      none = below_more (λ k. fault_at form recs k ≡ None) (record_number + 1) none
          (rw count (fault-here form recs taken rest r split ∙ here));
      done = h;
    }

pub progress-start : {F : Type 0} (form : Form F) (has : List Rec → Type 0) (recs : List Rec) → has []
    → Progress form has recs recs 0
progress-start form has recs h = grind arith

progress-blank : {F : Type 0} {form : Form F} {has : List Rec → Type 0} {recs rest : List Rec} {r : Rec} {record_number : ℕ}
    → Progress form has recs (r ∷ rest) record_number → is_blank r ≡ true
    → Progress form has recs rest (record_number + 1)
progress-blank {form = form} {has = has} {recs = recs} {rest = rest} {r = r} {record_number = record_number} p e =
    more form has recs p.taken rest r record_number p.split p.count p.none (rw e refl) (rw (nonblank-blank p.taken r e) p.done)

-- over blank records
progress-blanks : {F : Type 0} {form : Form F} {has : List Rec → Type 0} {recs rest : List Rec} (blanks : List Rec)
    (record_number : ℕ) → nonblank blanks ≡ []
    → Progress form has recs (blanks ++ rest) record_number → Progress form has recs rest (record_number + length blanks)
progress-blanks [] record_number b p = rw (plus-zero record_number) p
progress-blanks {form = form} {has = has} {recs = recs} {rest = rest} (r ∷ rs) record_number b p =
    by (is_blank r) refl (progress-blanks rs (record_number + 1))
  where
    by : (t : Bool) → is_blank r ≡ t
        → (nonblank rs ≡ [] → Progress form has recs (rs ++ rest) (record_number + 1)
        → Progress form has recs rest (record_number + 1 + length rs))
        → Progress form has recs rest (record_number + length (r ∷ rs))
    by true e go = rw (plus-suc record_number (length rs)) (go (rw e at b) (progress-blank p e))
    by false e go = cc (rw e at b)

pub progress-next : {F : Type 0} {form : Form F} {has next : List Rec → Type 0} {recs : List Rec} {old new : Position}
    → Progress form has recs old.left old.record_number → MeetsRecord old new
    → Takes form has next new.row → Progress form next recs new.left new.record_number
progress-next {form = form} {has = has} {next = next} {recs = recs} {old = old} {new = new} before m t =
    let p = progress-blanks m.blanks old.record_number m.are_blank (rw m.cut at before) in
    let taken = t (nonblank p.taken) p.done in
    rw m.at
    (more form next recs p.taken new.left new.row (old.record_number + length m.blanks) p.split p.count p.none
    (rw m.is_full taken.0) (rw (nonblank-more p.taken new.row m.is_full) taken.1))

first-fault : {F : Type 0} {form : Form F} {has : List Rec → Type 0} {recs rest : List Rec} {r : Rec} {record_number : ℕ}
    (f : F) → Progress form has recs (r ∷ rest) record_number
    → is_blank r ≡ false → ((before : List Rec) → has before → form before (Some r) ≡ Some f)
    → IsFirstFault form recs (record_number + 1) f
first-fault {form = form} {recs = recs} {rest = rest} {r = r} f p e here =
    record {
      within = rw p.split (omega (arith, length-append p.taken (r ∷ rest), p.count));
      here = rw p.count (fault-here form recs p.taken rest r p.split ∙ rw e (here (nonblank p.taken) p.done));
      none_before = p.none;
    }

pub progress-fault : {F : Type 0} {form : Form F} {has : List Rec → Type 0} {recs : List Rec} {old new : Position}
    (f : F) → Progress form has recs old.left old.record_number → MeetsRecord old new
    → ((before : List Rec) → has before → form before (Some new.row) ≡ Some f) → IsFirstFault form recs new.record_number f
progress-fault {old = old} f p m here =
    rw m.at (first-fault f (progress-blanks m.blanks old.record_number m.are_blank (rw m.cut at p)) m.is_full here)

pub progress-not-text : {F : Type 0} {form : Form F} {has : List Rec → Type 0} {recs : List Rec} {old new : Position}
    (f : F) → Progress form has recs old.left old.record_number → MeetsNotText old new
    → TellsNotText form f → IsFirstFault form recs new.record_number f
progress-not-text {old = old} f p m told =
    rw m.at
    (first-fault f (progress-blanks m.blanks old.record_number m.are_blank (rw m.cut at p))
    (not-text-is-full m.bad m.is_not_utf8) (λ before h. told before m.bad m.is_not_utf8))

-- at the end

fault-past : {F : Type 0} (form : Form F) (recs : List Rec) (k : ℕ) → length recs ≤ k
    → fault_at form recs (suc k) ≡ form (nonblank recs) None
fault-past form recs k h = rw (slice_get_past recs k h, take_all k recs h) refl

all-taken : {F : Type 0} {form : Form F} {has : List Rec → Type 0} {recs : List Rec} {record_number : ℕ}
    → Progress form has recs [] record_number → has (nonblank recs) × (record_number ≡ length recs)
all-taken {recs = recs} p = grind (arith, append-nil)

at-end : {F : Type 0} {form : Form F} {has : List Rec → Type 0} {recs : List Rec} {old new : Position}
    → Progress form has recs old.left old.record_number → MeetsEnd old new
    → Progress form has recs [] new.record_number
at-end {old = old} p m = rw m.at (progress-blanks old.left old.record_number m.are_blank (rw (append-nil old.left) p))

pub progress-end : {F : Type 0} {form : Form F} {has : List Rec → Type 0} {recs : List Rec} {old new : Position} (f : F)
    → Progress form has recs old.left old.record_number → MeetsEnd old new
    → TellsEnd form has (Some f) → IsFirstFault form recs (new.record_number + 1) f
progress-end {form = form} {recs = recs} {new = new} f before m e =
    let p = at-end before m in
    let all = all-taken p in
    record {
      within = omega (arith, all.1);
      here = rw (add-one new.record_number)
          (fault-past form recs new.record_number (omega (arith, all.1)) ∙ sym (e (nonblank recs) all.0));
      none_before = p.none;
    }

pub progress-none : {F : Type 0} {form : Form F} {has : List Rec → Type 0} {recs : List Rec} {old new : Position}
    → Progress form has recs old.left old.record_number → MeetsEnd old new
    → TellsEnd form has None → NoFault form recs
progress-none before m e zero = refl
progress-none {form = form} {has = has} {recs = recs} {new = new} before m e (suc k) =
    by (nat_lt k new.record_number) refl (at-end before m)
  where
    by : (b : Bool) → nat_lt k new.record_number ≡ b → Progress form has recs [] new.record_number → fault_at form recs (suc k) ≡ None
    by true l p = p.none (suc k) (below-more k new.record_number l)
    by false l p = fault-past form recs k (past k new.record_number (length recs) l (all-taken p).1)
        ∙ sym (e (nonblank recs) (all-taken p).0)
