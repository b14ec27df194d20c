-- Files that begin with head records: each kind's lemmas, for every kind.
use Rattle.std.proofs.Common.{◌≡◌, ◌∙◌, ℕ, Bool, true, false, cond, List, [], ◌∷◌, ◌++◌, refl, sym, ap, subst, inl, inr, Option, Some, None, append_assoc, append-nil}
use Rattle.std.specs.Prelude.{◌⊎◌, ⊤, IfErr, OnOk, Result, Ok, Err, map}
use Rattle.std.specs.List.{AllByRecursion, IsDistinct, list_any}
use Rattle.std.specs.Result.{result_err, result_map_both}
use Rattle.std.proofs.lemmas.Bool.{or_from}
use Rattle.pb_records.specs.Records.{Rec}
use Rattle.pb_records.specs.Cells.{is_text, nonblank}
use Rattle.pb_records.specs.FirstFault.{IsFirstFault, NoFault}
use Rattle.pb_records.specs.Inside.Drafts.{StopsAt, Takes, TellsEnd, TellsNotText}
use Rattle.pb_records.specs.Headed.{Kind, SoFar, after, after_all, end_fault, headed_form, nothing, record_fault, rows_after, so_far, unless_repeated, with_row}
use Rattle.pb_records.specs.Inside.Headed.{EndsAs, Follow, HasTaken, HeadsState, Steps, Taken, kept}
use Rattle.pb_records.specs.declared.drafts.Stop.TheVariants.{Fault}
use Rattle.pb_records.proofs.Clear.{ClearFrom, none-at-end, none-refused}
use Rattle.pb_records.proofs.Distinct.{apart-more, distinct-push, each-nil}
use Rattle.pb_records.proofs.Each.{all-fail, all-push, all-weaker}
use Rattle.pb_records.proofs.FirstOrNone.{HasFirst, first-or-none, kept-to-end}
use Rattle.pb_records.proofs.Lists.{map-push-by}

-- One more record.

heads-push : {F H Q : Type 0} (k : Kind F H Q) (h : H) (hs : List Rec) (r : Rec) (m n : H) → HeadsState k h hs m
    → k.is_whole m ≡ false → k.head m r ≡ Ok n → HeadsState k h (hs ++ (r ∷ [])) n
heads-push k h [] r m n s short next = (n, rw s short, rw s next, refl)
heads-push k h (x ∷ xs) r m n s short next = (s.0, s.1, s.2, heads-push k s.0 xs r m n s.3 short next)

follow-push : {F H Q : Type 0} (k : Kind F H Q) (done qs : List Q) (q : Q) → Follow k done qs
    → k.admit (done ++ qs) q ≡ None → Follow k done (qs ++ (q ∷ []))
follow-push k done [] q f admitted = (rw (append-nil done) at admitted, tt)
follow-push k done (x ∷ xs) q f admitted =
    (f.0, follow-push k (done ++ (x ∷ [])) xs q f.1 (rw (append_assoc done (x ∷ []) xs) admitted))

pub nothing-taken : {F H Q : Type 0} (k : Kind F H Q) → Taken k [] (nothing k)
nothing-taken k = record {
  heads = [];
  rows = [];
  cut = refl;
  text = tt;
  heads_state = refl;
  behind = λ short. (refl, refl);
  rows_state = refl;
  follow = tt;
}

pub nothing-kept : {F H Q K : Type 0} (k : Kind F H Q) (keep : List Q → K) (has : H × K)
    → has ≡ kept keep (nothing k) → HasTaken k keep has []
nothing-kept k keep has same = (nothing k, nothing-taken k, same)

head-taken : {F H Q : Type 0} (k : Kind F H Q) (before : List Rec) (s : SoFar H Q) (r : Rec) (h : H) → Taken k before s
    → is_text r ≡ true → k.is_whole s.head ≡ false → k.head s.head r ≡ Ok h
    → Taken k (before ++ (r ∷ [])) (record { head = h; rows = s.rows })
head-taken k before s r h t text short next =
    let none = t.behind short in
    record {
      heads = t.heads ++ (r ∷ []);
      rows = [];
      cut = ap (λ (rs : List Rec). rs ++ (r ∷ [])) (t.cut ∙ rw none.0 (append-nil t.heads))
          ∙ sym (append-nil (t.heads ++ (r ∷ [])));
      text = all-push (λ x. is_text x ≡ true) before r t.text text;
      heads_state = heads-push k k.start t.heads r s.head h t.heads_state short next;
      behind = λ still. (refl, none.1);
      rows_state = rw none.1 refl;
      follow = t.follow;
    }

row-taken : {F H Q : Type 0} (k : Kind F H Q) (before : List Rec) (s : SoFar H Q) (r : Rec) (q : Q) → Taken k before s
    → is_text r ≡ true → k.is_whole s.head ≡ true → k.row r ≡ Ok q → k.admit s.rows q ≡ None
    → Taken k (before ++ (r ∷ [])) (record { head = s.head; rows = s.rows ++ (q ∷ []) })
row-taken k before s r q t text whole states admitted =
    record {
      heads = t.heads;
      rows = t.rows ++ (r ∷ []);
      cut = ap (λ (rs : List Rec). rs ++ (r ∷ [])) t.cut ∙ append_assoc t.heads t.rows (r ∷ []);
      text = all-push (λ x. is_text x ≡ true) before r t.text text;
      heads_state = t.heads_state;
      behind = λ short. cc (whole, short);
      rows_state = map-push-by k.row Ok t.rows r s.rows q t.rows_state states;
      follow = follow-push k [] s.rows q t.follow admitted;
    }

pub taken-more : {F H Q : Type 0} (k : Kind F H Q) (before : List Rec) (s t : SoFar H Q) (r : Rec) → Taken k before s
    → is_text r ≡ true → after k s r ≡ Ok t → Taken k (before ++ (r ∷ [])) t
taken-more {F} {H} {Q} k before s t r taken text next = by (k.is_whole s.head) refl next
  where
    by-head : (x : Result H F) → k.is_whole s.head ≡ false → k.head s.head r ≡ x
        → result_map_both (λ h. record { head = h; rows = s.rows }) (λ f. f) x ≡ Ok t → Taken k (before ++ (r ∷ [])) t
    by-head (Ok h) short is e = let same : record { head = h; rows = s.rows } ≡ t = cc e in
        subst (Taken k (before ++ (r ∷ []))) same (head-taken k before s r h taken text short is)
    by-head (Err f) short is e = cc e

    by-place : (q : Q) (o : Option F) → k.is_whole s.head ≡ true → k.row r ≡ Ok q → k.admit s.rows q ≡ o
        → result_map_both (λ qs. record { head = s.head; rows = qs }) (λ f. f) (with_row s.rows q o) ≡ Ok t → Taken k (before ++ (r ∷ [])) t
    by-place q None whole states is e = let same : record { head = s.head; rows = s.rows ++ (q ∷ []) } ≡ t = cc e in
        subst (Taken k (before ++ (r ∷ []))) same (row-taken k before s r q taken text whole states is)
    by-place q (Some f) whole states is e = cc e

    by-row : (x : Result Q F) → k.is_whole s.head ≡ true → k.row r ≡ x → result_map_both (λ qs. record { head = s.head; rows = qs }) (λ f. f) (rows_after k.admit s.rows x) ≡ Ok t
        → Taken k (before ++ (r ∷ [])) t
    by-row (Ok q) whole states e = by-place q (k.admit s.rows q) whole states refl e
    by-row (Err f) whole states e = cc e

    by : (b : Bool) → k.is_whole s.head ≡ b
        → cond b (result_map_both (λ qs. record { head = s.head; rows = qs }) (λ f. f) (rows_after k.admit s.rows (k.row r)))
        (result_map_both (λ h. record { head = h; rows = s.rows }) (λ f. f) (k.head s.head r)) ≡ Ok t
        → Taken k (before ++ (r ∷ [])) t
    by true whole e = by-row (k.row r) whole refl e
    by false short e = by-head (k.head s.head r) short refl e

-- What a draft gives that goes on so.

row-ends : {F H Q K : Type 0} (keep : List Q → K) (h : H) (x : Result (List Q) F) (result : Result ⊤ F) (new : K)
    → EndsAs (result_map_both keep (λ f. f) x) result new
    → EndsAs (result_map_both (kept keep) (λ f. f) (result_map_both (λ qs. record { head = h; rows = qs }) (λ f. f) x))
    result (h, new)
row-ends keep h (Ok qs) (Ok done) new ends = let same : keep qs ≡ new = cc ends in rw same refl
row-ends keep h (Ok qs) (Err f) new ends = cc ends
row-ends keep h (Err g) (Ok done) new ends = cc ends
row-ends keep h (Err g) (Err f) new ends = let same : g ≡ f = cc ends in rw same refl

pub row-steps : {F H Q K : Type 0} (k : Kind F H Q) (keep : List Q → K) (after_row : K → Result K F) (h h' : H)
    (has new : K) (r : Rec) (result : Result ⊤ F) → k.is_whole h ≡ true → h' ≡ h
    → ((qs : List Q) → after_row (keep qs) ≡ result_map_both keep (λ f. f) (rows_after k.admit qs (k.row r)))
    → EndsAs (after_row has) result new → Steps k keep (h, has) (h', new) r result
row-steps k keep after_row h h' has new r result whole same gives ends s is =
    let at : h ≡ s.head = ap (λ (x : _ × _). x.0) is in
    let rows : has ≡ keep s.rows = ap (λ (x : _ × _). x.1) is in
    rw (sym at, whole, same)
    (row-ends keep h (rows_after k.admit s.rows (k.row r)) result new
    (subst (λ x. EndsAs x result new) (ap after_row rows ∙ gives s.rows) ends))

-- What records state that were taken, one after another.

after-more : {F H Q : Type 0} (k : Kind F H Q) (xs ys : List Rec) (x : Result (SoFar H Q) F)
    → after_all k (xs ++ ys) x ≡ after_all k ys (after_all k xs x)
after-more k [] ys x = refl
after-more k (r ∷ rs) ys (Ok s) = after-more k rs ys (after k s r)
after-more k (r ∷ rs) [] (Err f) = refl
after-more k (r ∷ rs) (y ∷ ys) (Err f) = refl

heads-give : {F H Q : Type 0} (k : Kind F H Q) (h last : H) (qs : List Q) (hs : List Rec) → HeadsState k h hs last
    → after_all k hs (Ok (record { head = h; rows = qs })) ≡ Ok (record { head = last; rows = qs })
heads-give k h last qs [] s = rw s refl
heads-give k h last qs (r ∷ rs) s = rw (s.1, s.2) (heads-give k s.0 last qs rs s.3)

rows-give : {F H Q : Type 0} (k : Kind F H Q) (h : H) (done qs : List Q) (rows : List Rec) → k.is_whole h ≡ true
    → map k.row rows ≡ map Ok qs → Follow k done qs
    → after_all k rows (Ok (record { head = h; rows = done })) ≡ Ok (record { head = h; rows = done ++ qs })
rows-give k h done [] [] whole states f = rw (append-nil done) refl
rows-give k h done [] (r ∷ rs) whole states f = cc states
rows-give k h done (q ∷ qs) [] whole states f = cc states
rows-give k h done (q ∷ qs) (r ∷ rs) whole states f =
    let first : k.row r ≡ Ok q = cc states in
    let rest : map k.row rs ≡ map Ok qs = cc states in
    rw (whole, first, f.0)
    (rows-give k h (done ++ (q ∷ [])) qs rs whole rest f.1
    ∙ ap (λ (xs : List _). Ok (record { head = h; rows = xs })) (append_assoc done (q ∷ []) qs))

pub taken-so-far : {F H Q : Type 0} (k : Kind F H Q) (before : List Rec) (s : SoFar H Q) → Taken k before s
    → so_far k before ≡ Ok s
taken-so-far {F} {H} {Q} k before s t =
    ap (so_far k) t.cut ∙ after-more k t.heads t.rows (Ok (nothing k))
    ∙ ap (after_all k t.rows) (heads-give k k.start s.head [] t.heads t.heads_state) ∙ by (k.is_whole s.head) refl
  where
    by : (b : Bool) → k.is_whole s.head ≡ b → after_all k t.rows (Ok (record { head = s.head; rows = [] })) ≡ Ok s
    by true whole = rows-give k s.head [] s.rows t.rows whole t.rows_state t.follow
    by false short = let none = t.behind short in
        rw none.0 (ap (λ (qs : List Q). Ok (record { head = s.head; rows = qs })) (sym none.1))

-- The fault at each place behind them.

pub form-here : {F H Q : Type 0} (k : Kind F H Q) (before : List Rec) (s : SoFar H Q) (r : Rec) → Taken k before s
    → is_text r ≡ true → headed_form k before (Some r) ≡ result_err (after k s r)
form-here k before s r t text = rw text (ap (record_fault k r) (taken-so-far k before s t))

pub form-end : {F H Q : Type 0} (k : Kind F H Q) (before : List Rec) (s : SoFar H Q) → Taken k before s
    → headed_form k before None ≡ cond (k.is_whole s.head) None (Some k.cut)
form-end k before s t = ap (end_fault k) (taken-so-far k before s t)

form-not-text : {F H Q : Type 0} (k : Kind F H Q) → TellsNotText (headed_form k) k.not_text
form-not-text k before r other = rw other refl

form-text : {F H Q : Type 0} (k : Kind F H Q) (before : List Rec) (r : Rec) → headed_form k before (Some r) ≡ None
    → is_text r ≡ true
form-text k before r none = by (is_text r) refl
  where
    by : (b : Bool) → is_text r ≡ b → is_text r ≡ true
    by true is = is
    by false is = let other = form-not-text k before r is in cc (none, other)

pub steps-take : {F H Q K : Type 0} (k : Kind F H Q) (keep : List Q → K) (old new : H × K) (r : Rec)
    (result : Result ⊤ F) → is_text r ≡ true → Steps k keep old new r result
    → OnOk result (Takes (headed_form k) (HasTaken k keep old) (HasTaken k keep new) r)
steps-take {F} {H} {Q} k keep old new r (Ok done) text steps = λ before h. (
    by before h (after k h.0 r) refl (steps h.0 h.2)
    )
  where
    by : (before : List Rec) (h : HasTaken k keep old before) (x : Result (SoFar H Q) F) → after k h.0 r ≡ x
        → result_map_both (kept keep) (λ f. f) x ≡ Ok new
        → (headed_form k before (Some r) ≡ None) × HasTaken k keep new (before ++ (r ∷ []))
    by before h (Ok t) step e = (
      form-here k before h.0 r h.1 text ∙ ap result_err step,
      (t, taken-more k before h.0 t r h.1 text step, cc e),
    )
    by before h (Err f) step e = cc e
steps-take k keep old new r (Err f) text steps = tt

pub steps-stop : {F H Q K : Type 0} (k : Kind F H Q) (keep : List Q → K) (old new : H × K) (r : Rec)
    (result : Result ⊤ F) → is_text r ≡ true → Steps k keep old new r result
    → IfErr result (λ f. StopsAt (headed_form k) (HasTaken k keep old) r (Fault f))
steps-stop k keep old new r (Ok done) text steps = tt
steps-stop {F} {H} {Q} k keep old new r (Err f) text steps = λ before h. (
    form-here k before h.0 r h.1 text ∙ by (after k h.0 r) (steps h.0 h.2)
    )
  where
    by : (x : Result (SoFar H Q) F) → result_map_both (kept keep) (λ f. f) x ≡ Err f → result_err x ≡ Some f
    by (Ok t) e = cc e
    by (Err g) e = cc e

-- what a draft tells of the end
pub end-told : {F H Q K : Type 0} (k : Kind F H Q) (keep : List Q → K) (h : H) (has : K)
    (told : Option F) → told ≡ cond (k.is_whole h) None (Some k.cut)
    → TellsEnd (headed_form k) (HasTaken k keep (h, has)) told
end-told k keep h has told tells before t =
    tells
    ∙ ap (λ x. cond (k.is_whole x) None (Some k.cut)) (ap (λ (x : _ × _). x.0) t.2) ∙ sym (form-end k before t.0 t.1)

-- Records without a fault were taken, and their head is whole.

one-more : {F H Q : Type 0} (k : Kind F H Q) (before : List Rec) (s : SoFar H Q) (r : Rec) → Taken k before s
    → is_text r ≡ true → result_err (after k s r) ≡ None → (t : SoFar H Q) × Taken k (before ++ (r ∷ [])) t
one-more {F} {H} {Q} k before s r taken text none = by (after k s r) refl none
  where
    by : (x : Result (SoFar H Q) F) → after k s r ≡ x → result_err x ≡ None
        → (t : SoFar H Q) × Taken k (before ++ (r ∷ [])) t
    by (Ok t) is e = (t, taken-more k before s t r taken text is)
    by (Err f) is e = cc e

ends-whole : {F : Type 0} (f : F) (b : Bool) → cond b None (Some f) ≡ None → b ≡ true
ends-whole f true e = refl
ends-whole f false e = cc e

-- what is there of a file whose head is whole
pub record States {F H Q : Type 0} (k : Kind F H Q) (recs : List Rec) : Type 0 where
  pub so_far : SoFar H Q
  pub taken : Taken k (nonblank recs) so_far
  pub whole : k.is_whole so_far.head ≡ true

pub all-taken : {F H Q : Type 0} (k : Kind F H Q) (recs : List Rec) → NoFault (headed_form k) recs → States k recs
all-taken {F} {H} {Q} k recs none =
    let taken : (s : SoFar H Q) × Taken k (nonblank recs) s =
    kept-to-end (headed_form k) (λ before. (s : SoFar H Q) × Taken k before s) recs
    (record {
      start = (nothing k, nothing-taken k);
      more = λ before r h e. (let text = form-text k before r e in
          one-more k before h.0 r h.1 text (sym (form-here k before h.0 r h.1 text) ∙ e));
    }) none in
    record {
      so_far = taken.0;
      taken = taken.1;
      whole = ends-whole k.cut (k.is_whole taken.0.head)
          (sym (form-end k (nonblank recs) taken.0 taken.1) ∙ none-at-end (headed_form k) recs none);
    }

-- what a draft has of them
pub all-kept : {F H Q K : Type 0} (k : Kind F H Q) (keep : List Q → K) (has : H × K) (recs : List Rec)
    → HasTaken k keep has (nonblank recs) → NoFault (headed_form k) recs
    → (s : States k recs) × (has ≡ kept keep s.so_far)
all-kept k keep has recs t none = (
  record {
    so_far = t.0;
    taken = t.1;
    whole = ends-whole k.cut (k.is_whole t.0.head)
        (sym (form-end k (nonblank recs) t.0 t.1) ∙ none-at-end (headed_form k) recs none);
  },
  t.2,
)

-- records state something, or have a first fault
pub states-or-first : {F H Q : Type 0} (k : Kind F H Q) (recs : List Rec) → States k recs ⊎ HasFirst (headed_form k) recs
states-or-first k recs =
    elim (first-or-none (headed_form k) recs) [ inl none ↦ inl (all-taken k recs none) | inr first ↦ inr first ]

-- and where they state something, they have none
clear-from : {F H Q : Type 0} (k : Kind F H Q) (pre rest : List Rec) (s t : SoFar H Q) → Taken k pre s
    → AllByRecursion (λ r. is_text r ≡ true) rest → after_all k rest (Ok s) ≡ Ok t → k.is_whole t.head ≡ true
    → ClearFrom (headed_form k) pre rest
clear-from k pre [] s t taken text e whole =
    let same : s ≡ t = cc e in
    form-end k pre s taken ∙ rw (same, whole) refl
clear-from {F} {H} {Q} k pre (r ∷ rs) s t taken text e whole =
    by (after k s r) refl e (λ m. clear-from k (pre ++ (r ∷ [])) rs m t)
  where
    by : (x : Result (SoFar H Q) F) → after k s r ≡ x → after_all k rs x ≡ Ok t
        → ((m : SoFar H Q) → Taken k (pre ++ (r ∷ [])) m → AllByRecursion (λ x. is_text x ≡ true) rs
        → after_all k rs (Ok m) ≡ Ok t → k.is_whole t.head ≡ true → ClearFrom (headed_form k) (pre ++ (r ∷ [])) rs)
        → ClearFrom (headed_form k) pre (r ∷ rs)
    by (Ok m) is e more = (
      form-here k pre s r taken text.0 ∙ ap result_err is,
      more m (taken-more k pre s m r taken text.0 is) text.1 e whole,
    )
    by (Err f) is e more = absurd (no-end rs e)
      where
        no-end : (xs : List Rec) → after_all k xs (Err f) ≡ Ok t → ⊥
        no-end [] e = cc e
        no-end (x ∷ xs) e = cc e

pub states-clear : {F H Q : Type 0} (k : Kind F H Q) (recs : List Rec) → States k recs
    → (record_number : ℕ) (f : F) → IsFirstFault (headed_form k) recs record_number f → ⊥
states-clear k recs s =
    none-refused (headed_form k) recs
    (clear-from k [] (nonblank recs) (nothing k) s.so_far (nothing-taken k) s.taken.text
    (taken-so-far k (nonblank recs) s.so_far s.taken) s.whole)

-- Rows none of which repeats another, where that is the only fault that a row has behind others.

same-turned : {Q : Type 0} (same : Q → Q → Bool) → ((x y : Q) → same x y ≡ same y x) → (q : Q) (done : List Q)
    → list_any (same q) done ≡ false → AllByRecursion (λ d. same d q ≡ false) done
same-turned same turn q done new =
    all-weaker (λ d. same q d ≡ false) (λ d. same d q ≡ false) done (λ d other. turn d q ∙ other)
    (all-fail (same q) done new)

pub none-same : {Q : Type 0} (same : Q → Q → Bool) → ((x y : Q) → same x y ≡ same y x) → (q : Q) (done : List Q)
    → AllByRecursion (λ d. same d q ≡ false) done → list_any (same q) done ≡ false
none-same same turn q [] h = refl
none-same same turn q (d ∷ ds) h =
    or_from (same q d) (list_any (same q) ds) (turn q d ∙ h.0) (none-same same turn q ds h.1)

distinct-from : {F H Q : Type 0} (k : Kind F H Q) (fault : F) (same : Q → Q → Bool)
    → ((x y : Q) → same x y ≡ same y x)
    → ((qs : List Q) (q : Q) → k.admit qs q ≡ unless_repeated fault same qs q) → (done qs : List Q)
    → AllByRecursion (λ x. AllByRecursion (λ d. same d x ≡ false) done) qs → IsDistinct same qs → Follow k done qs
unfolding IsDistinct
distinct-from k fault same turn is done [] apart once = tt
distinct-from k fault same turn is done (q ∷ qs) apart once = (
  is done q ∙ rw (none-same same turn q done apart.0) refl,
  distinct-from k fault same turn is (done ++ (q ∷ [])) qs (apart-more same done q qs apart.1 once.0) once.1,
)

pub distinct-follow : {F H Q : Type 0} (k : Kind F H Q) (fault : F) (same : Q → Q → Bool)
    → ((x y : Q) → same x y ≡ same y x)
    → ((qs : List Q) (q : Q) → k.admit qs q ≡ unless_repeated fault same qs q) → (qs : List Q)
    → IsDistinct same qs → Follow k [] qs
distinct-follow k fault same turn is qs once = distinct-from k fault same turn is [] qs (each-nil same qs) once

not-repeated : {F : Type 0} (fault : F) (b : Bool) → cond b (Some fault) None ≡ None → b ≡ false
not-repeated fault true e = cc e
not-repeated fault false e = refl

follow-from : {F H Q : Type 0} (k : Kind F H Q) (fault : F) (same : Q → Q → Bool)
    → ((x y : Q) → same x y ≡ same y x)
    → ((qs : List Q) (q : Q) → k.admit qs q ≡ unless_repeated fault same qs q) → (done qs : List Q)
    → IsDistinct same done → Follow k done qs → IsDistinct same (done ++ qs)
follow-from k fault same turn is done [] once f = rw (append-nil done) once
follow-from k fault same turn is done (q ∷ qs) once f =
    let new = not-repeated fault (list_any (same q) done) (sym (is done q) ∙ f.0) in
    subst (IsDistinct same) (append_assoc done (q ∷ []) qs)
    (follow-from k fault same turn is (done ++ (q ∷ [])) qs
    (distinct-push same done q once (same-turned same turn q done new)) f.1)

pub follow-distinct : {F H Q : Type 0} (k : Kind F H Q) (fault : F) (same : Q → Q → Bool)
    → ((x y : Q) → same x y ≡ same y x)
    → ((qs : List Q) (q : Q) → k.admit qs q ≡ unless_repeated fault same qs q) → (qs : List Q)
    → Follow k [] qs → IsDistinct same qs
unfolding IsDistinct
follow-distinct k fault same turn is qs f = follow-from k fault same turn is [] qs tt f
