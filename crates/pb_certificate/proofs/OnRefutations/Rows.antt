-- The rows of a refutation, and what they state of each project.
use Rattle.std.proofs.Common.{◌≡◌, ◌≢◌, ◌∙◌, ◌+◌, ◌-◌, ℕ, zero, suc, Bool, true, false, cond, List, [], ◌∷◌, ◌++◌, length, refl, sym, ap, arith, Option, Some, None}
use Rattle.std.specs.Prelude.{◌==◌, ◌||◌, Result, Ok, Err, map, nat_lt, replicate, is_none, is_some, slice_index_or}
use Rattle.std.specs.List.{list_any, range_with_len}
use Rattle.std.specs.Result.{result_map_both}
use Rattle.std.proofs.lemmas.Bool.{eq-eqb, lt-ltb, ne_eqb}
use Rattle.std.proofs.lemmas.List.FromFn.{get_or-map-range_with_len, length-map-range_with_len}
use Rattle.pb_election.specs.Instance.{Instance, IsProject, projects}
use Rattle.pb_election.proofs.Elections.{found_is}
use Rattle.pb_records.specs.Headed.{rows_after, unless_repeated}
use Rattle.pb_records.specs.Headed as generic
use Rattle.pb_records.specs.Records.{Field, Rec}
use Rattle.pb_records.specs.Cells.{cell}
use Rattle.pb_certificate.specs.Fields.{fields, project_in}
use Rattle.pb_certificate.specs.Refutations.Kind.{refutation_row, row_from, weighting_from, weighting_in}
use Rattle.pb_certificate.specs.Refutations.Text.{WeightRow, role_in, same_project, stated_by, stated_of, weight_in, weight_row_by, weight_row_of}
use Rattle.pb_certificate.specs.Inside.Refutations.{after_weight_row, is_free, weights_after, with_row}
use Rattle.pb_certificate.specs.declared.refutations.weighting.Role.{Role}
use Rattle.pb_certificate.specs.declared.refutations.weighting.Weighting.{Weighting}
use Rattle.pb_certificate.specs.declared.refusal.CertFault.{CertFault}
use Rattle.pb_certificate.specs.declared.refusal.CertFault.TheVariants as fault
use Rattle.pb_certificate.proofs.Cells.{cell-is}
use Rattle.pb_certificate.proofs.Heads.{triple-is}
use Rattle.pb_certificate.proofs.MarkLemmas.{set-range}

-- what a row says: its three fields, and what they state
pub record Row (e : Instance) (r : Rec) (q : WeightRow) : Type 0 where
  pub f : Field
  pub c : Field
  pub n : Field
  pub shape : fields r ≡ f ∷ c ∷ n ∷ []
  pub role : role_in f ≡ Some q.states.role
  pub project : project_in e c ≡ Some q.project
  pub weight : weight_in n ≡ Some q.states.weight

row-by : (e : Instance) (r : Rec) (q : WeightRow) (fs : List Field) → fields r ≡ fs → weight_row_by e fs ≡ Some q
    → Row e r q
row-by e r q fs s h = grind arith

pub row-of : (e : Instance) (r : Rec) (q : WeightRow) → weight_row_of e r ≡ Some q → Row e r q
row-of e r q h = row-by e r q (fields r) refl h

pub row-project : (e : Instance) (r : Rec) (q : WeightRow) → Row e r q → project_in e (cell 1 r) ≡ Some q.project
row-project e r q row = ap (project_in e) (cell-is r (row.f ∷ row.c ∷ row.n ∷ []) 1 row.shape) ∙ row.project

-- a row of these cells
cells-state : (e : Instance) (r : Rec) (x : Role) (j n : ℕ) → (length (fields r) == 3) ≡ true
    → role_in (cell 0 r) ≡ Some x → weight_in (cell 2 r) ≡ Some n → project_in e (cell 1 r) ≡ Some j
    → weight_row_of e r ≡ Some (record { project = j; states = record { role = x; weight = n } })
cells-state e r x j n three role weight project =
    ap (weight_row_by e) (triple-is r three) ∙ rw (role, weight, project) refl

-- what a row states of these cells, and of no others
pub row-states : (e : Instance) (r : Rec) (q : WeightRow) → refutation_row e r ≡ Ok q → weight_row_of e r ≡ Some q
row-states e r q h =
    by (length (fields r) == 3) (role_in (cell 0 r)) (weight_in (cell 2 r)) (project_in e (cell 1 r)) refl refl refl refl h
  where
    by : (three : Bool) (role : Option Role) (weight project : Option ℕ) → (length (fields r) == 3) ≡ three
        → role_in (cell 0 r) ≡ role → weight_in (cell 2 r) ≡ weight → project_in e (cell 1 r) ≡ project
        → row_from (cond three (weighting_from role weight) (Err fault.BadRow)) project ≡ Ok q
        → weight_row_of e r ≡ Some q
    by false role weight project a b c d k = cc k
    by true None weight project a b c d k = cc k
    by true (Some x) None project a b c d k = cc k
    by true (Some x) (Some n) None a b c d k = cc k
    by true (Some x) (Some n) (Some j) a b c d k =
        let same : record { project = j; states = record { role = x; weight = n } } ≡ q = cc k in
        cells-state e r x j n a b c d ∙ ap Some same

pub states-row : (e : Instance) (r : Rec) (q : WeightRow) → weight_row_of e r ≡ Some q → refutation_row e r ≡ Ok q
states-row e r q h =
    let row = row-of e r q h in
    let cells : List Field = row.f ∷ row.c ∷ row.n ∷ [] in
    rw (
      ap length row.shape,
      ap role_in (cell-is r cells 0 row.shape) ∙ row.role,
      ap weight_in (cell-is r cells 2 row.shape) ∙ row.weight,
      row-project e r q row,
    ) refl

-- A project stood before exactly where the rows state something of it.

turn : (j k : ℕ) → (j == k) ≡ (k == j)
turn j k = grind arith

pub same-turned : (a b : WeightRow) → same_project a b ≡ same_project b a
same-turned a b = turn a.project b.project

stood-before : (qs : List WeightRow) (q : WeightRow) → list_any (same_project q) qs ≡ is_some (stated_of qs q.project)
stood-before [] q = refl
stood-before (p ∷ ps) q = rw (turn q.project p.project) (by (p.project == q.project) (stood-before ps q))
  where
    by : (b : Bool) → list_any (same_project q) ps ≡ is_some (stated_of ps q.project)
        → (b || list_any (same_project q) ps) ≡ is_some (cond b (Some p.states) (stated_of ps q.project))
    by true rest = refl
    by false rest = rest

free-is : (e : Instance) (rows : List (Option Weighting)) (qs : List WeightRow) (j : ℕ) → rows ≡ stated_by e qs
    → IsProject e j → is_free rows j ≡ is_none (stated_of qs j)
free-is e rows qs j are at =
    let many : length rows ≡ projects e =
    ap length are ∙ length-map-range_with_len (stated_of qs) 1 (projects e) in
    let here : slice_index_or rows (j - 1) None ≡ stated_of qs j =
    ap (λ (xs : List (Option Weighting)). slice_index_or xs (j - 1) None) are
    ∙ get_or-map-range_with_len (stated_of qs) 1 (projects e) (j - 1) j None (omega arith) (omega arith) in
    let inside : nat_lt (j - 1) (length rows) ≡ true = lt-ltb (j - 1) (length rows) (omega arith) in
    rw (inside, here) refl

-- No row.

none-from : (a n : ℕ) → replicate n None ≡ map (stated_of []) (range_with_len a n)
none-from a zero = refl
none-from a (suc n) = ap (λ (os : List (Option Weighting)). None ∷ os) (none-from (a + 1) n)

pub none-stated : (e : Instance) → replicate (projects e) None ≡ stated_by e []
none-stated e = none-from 1 (projects e)

-- One more row.

stated-here : (qs : List WeightRow) (q : WeightRow) → stated_of qs q.project ≡ None
    → stated_of (qs ++ (q ∷ [])) q.project ≡ Some q.states
stated-here [] q none = rw (eq-eqb q.project q.project refl) refl
stated-here (p ∷ ps) q none = by (p.project == q.project) (stated-here ps q) none
  where
    by : (b : Bool) → (stated_of ps q.project ≡ None → stated_of (ps ++ (q ∷ [])) q.project ≡ Some q.states)
        → cond b (Some p.states) (stated_of ps q.project) ≡ None
        → cond b (Some p.states) (stated_of (ps ++ (q ∷ [])) q.project) ≡ Some q.states
    by true more none = cc none
    by false more none = more none

stated-other : (qs : List WeightRow) (q : WeightRow) (i : ℕ) → i ≢ q.project
    → stated_of (qs ++ (q ∷ [])) i ≡ stated_of qs i
stated-other [] q i other = rw (ne_eqb q.project i (λ e. other (sym e))) refl
stated-other (p ∷ ps) q i other = ap (λ o. cond (p.project == i) (Some p.states) o) (stated-other ps q i other)

stated-more : (e : Instance) (rows : List (Option Weighting)) (qs : List WeightRow) (q : WeightRow)
    → rows ≡ stated_by e qs → IsProject e q.project → stated_of qs q.project ≡ None
    → with_row rows q.project q.states ≡ stated_by e (qs ++ (q ∷ []))
stated-more e rows qs q are at none =
    let place : 1 + (q.project - 1) ≡ q.project = omega (arith, at.0) in
    ap (λ (xs : List (Option Weighting)). with_row xs q.project q.states) are
    ∙ set-range (stated_of qs) (stated_of (qs ++ (q ∷ []))) (projects e) 1 (q.project - 1) (Some q.states)
    (omega (arith, at.0, at.1)) (ap (stated_of (qs ++ (q ∷ []))) place ∙ stated-here qs q none)
    (λ i other. stated-other qs q i (λ same. other (same ∙ sym place)))

-- What a draft has after one more row.

pub after-row : (e : Instance) (qs : List WeightRow) (r : Rec)
    → after_weight_row e (stated_by e qs) r
    ≡ result_map_both (stated_by e) (λ f. f)
    (rows_after (unless_repeated fault.Repeated same_project) qs (refutation_row e r))
after-row e qs r = by (weighting_in r) (project_in e (cell 1 r)) refl
  where
    last : (q : WeightRow) (o : Option Weighting) → IsProject e q.project → stated_of qs q.project ≡ o
        → cond (is_none o) (Ok (with_row (stated_by e qs) q.project q.states)) (Err fault.Repeated)
        ≡ result_map_both (stated_by e) (λ f. f) (generic.with_row qs q (cond (is_some o) (Some fault.Repeated) None))
    last q None at none = ap Ok (stated-more e (stated_by e qs) qs q refl at none)
    last q (Some x) at some = refl

    by : (x : Result Weighting CertFault) (place : Option ℕ) → project_in e (cell 1 r) ≡ place
        → weights_after (stated_by e qs) x place
        ≡ result_map_both (stated_by e) (λ f. f)
        (rows_after (unless_repeated fault.Repeated same_project) qs (row_from x place))
    by (Err f) place is = refl
    by (Ok x) None is = refl
    by (Ok x) (Some j) is =
        let q : WeightRow = record { project = j; states = x } in
        let at = (found_is e (cell 1 r) j is).0 in
        rw (free-is e (stated_by e qs) qs j refl at, stood-before qs q) (last q (stated_of qs j) at refl)
