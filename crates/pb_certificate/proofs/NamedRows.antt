-- The rows of violation certificates and outcome files.
use Rattle.std.proofs.Common.{◌≡◌, ◌∙◌, ℕ, Bool, true, false, cond, List, [], ◌∷◌, refl, sym, ap, subst, inl, inr, Some, None}
use Rattle.std.specs.Prelude.{codes}
use Rattle.std.specs.Option.{option_map}
use Rattle.std.specs.Str.{bytes_eq}
use Rattle.std.proofs.lemmas.Bool.{cases_eq, eq-eqb, ne_eqb}
use Rattle.std.proofs.lemmas.Slice.Eq.{bytes_eq-Decides}
use Rattle.pb_election.specs.Instance.{Instance}
use Rattle.pb_records.specs.Records.{Field, Rec}
use Rattle.pb_records.specs.Cells.{cell}
use Rattle.pb_certificate.specs.Fields.{fields, project_in, voter_in, whole_in}
use Rattle.pb_certificate.specs.NamedRows.{Named, is_kind, named_by, named_of, same_named}
use Rattle.pb_certificate.specs.NamedRows.Named.{Voter, Project}
use Rattle.pb_certificate.proofs.Cells.{cell-is}
use Rattle.pb_certificate.proofs.Numbers.{whole-is}
use Rattle.pb_certificate.proofs.OnPrices.Texts.{map-some}

-- What a row says.

abbrev pub Says : Instance → Field → Field → Named → Type 0
Says e kind f (Voter i) = (kind ≡ codes "voter") × (voter_in e f ≡ Some i)
Says e kind f (Project j) = (kind ≡ codes "project") × (project_in e f ≡ Some j)

pub record Row (e : Instance) (r : Rec) (x : Named) : Type 0 where
  pub kind : Field
  pub f : Field
  pub shape : fields r ≡ kind ∷ f ∷ []
  pub says : Says e kind f x

row-by : (e : Instance) (r : Rec) (x : Named) (fs : List Field) → fields r ≡ fs → named_by e fs ≡ Some x → Row e r x
row-by e r x (k ∷ f ∷ []) s h = go (bytes_eq k (codes "voter")) refl (bytes_eq k (codes "project")) refl h
  where
    go : (a : Bool) → bytes_eq k (codes "voter") ≡ a → (b : Bool) → bytes_eq k (codes "project") ≡ b
        → cond a (option_map Voter (voter_in e f)) (cond b (option_map Project (project_in e f)) None) ≡ Some x
        → Row e r x
    go true is b is_b l = let found = map-some Voter (voter_in e f) x l in
        subst (Row e r) found.2
        (record { kind = k; f = f; shape = s; says = ((bytes_eq-Decides k (codes "voter")).0 is, found.1) })
    go false no' true is l = let found = map-some Project (project_in e f) x l in
        subst (Row e r) found.2
        (record { kind = k; f = f; shape = s; says = ((bytes_eq-Decides k (codes "project")).0 is, found.1) })
    go false no' false no'' l = cc
row-by e r x _ s h = cc

pub row-of : (e : Instance) (r : Rec) (x : Named) → named_of e r ≡ Some x → Row e r x
row-of e r x h = row-by e r x (fields r) refl h

-- the kind of a row, tested
kind-is : (e : Instance) (r : Rec) (x : Named) (row : Row e r x) (name word : Field) → row.kind ≡ word
    → is_kind name r ≡ bytes_eq word name
kind-is e r x row name word h = ap (λ k. bytes_eq k name) (cell-is r (row.kind ∷ row.f ∷ []) 0 row.shape ∙ h)

pub voter-kind : (e : Instance) (r : Rec) (i : ℕ) → Row e r (Voter i)
    → (is_kind (codes "voter") r ≡ true) × (is_kind (codes "project") r ≡ false)
voter-kind e r i row = (
  kind-is e r (Voter i) row (codes "voter") (codes "voter") row.says.0,
  kind-is e r (Voter i) row (codes "project") (codes "voter") row.says.0,
)

pub project-kind : (e : Instance) (r : Rec) (j : ℕ) → Row e r (Project j)
    → (is_kind (codes "voter") r ≡ false) × (is_kind (codes "project") r ≡ true)
project-kind e r j row = (
  kind-is e r (Project j) row (codes "voter") (codes "project") row.says.0,
  kind-is e r (Project j) row (codes "project") (codes "project") row.says.0,
)

pub row-voter : (e : Instance) (r : Rec) (i : ℕ) (row : Row e r (Voter i)) → voter_in e (cell 1 r) ≡ Some i
row-voter e r i row = ap (voter_in e) (cell-is r (row.kind ∷ row.f ∷ []) 1 row.shape) ∙ row.says.1

pub row-number : (e : Instance) (r : Rec) (i : ℕ) (row : Row e r (Voter i)) → whole_in (cell 1 r) ≡ Some i
row-number e r i row = ap whole_in (cell-is r (row.kind ∷ row.f ∷ []) 1 row.shape) ∙ whole-is _ _ row.f i row.says.1

pub row-project : (e : Instance) (r : Rec) (j : ℕ) (row : Row e r (Project j)) → project_in e (cell 1 r) ≡ Some j
row-project e r j row = ap (project_in e) (cell-is r (row.kind ∷ row.f ∷ []) 1 row.shape) ∙ row.says.1

-- Naming the same goes both ways.

pub turn : (x y : Named) → same_named x y ≡ same_named y x
turn (Voter i) (Voter k) =
    elim (cases_eq i k)
    [ inl e ↦ eq-eqb i k e ∙ sym (eq-eqb k i (sym e)) | inr e ↦ ne_eqb i k e ∙ sym (ne_eqb k i (λ q. e (sym q))) ]
turn (Voter i) (Project k) = refl
turn (Project j) (Voter k) = refl
turn (Project j) (Project k) =
    elim (cases_eq j k)
    [ inl e ↦ eq-eqb j k e ∙ sym (eq-eqb k j (sym e)) | inr e ↦ ne_eqb j k e ∙ sym (ne_eqb k j (λ q. e (sym q))) ]
