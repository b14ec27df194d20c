-- The text of a refutation.
use Rattle.std.specs.Prelude.{◌≡◌, ◌==◌, if◌then◌else◌, Bool, IsTrue, ℕ, false, List, [], ◌∷◌, map, Option, Some, None, codes}
use Rattle.std.specs.List.{AllByRecursion, IsDistinct}
use Rattle.std.specs.Str.{bytes_eq}
use Rattle.pb_election.specs.Instance.{Instance, all_projects}
use Rattle.pb_records.specs.Records.{Field, Rec}
use Rattle.pb_records.specs.Cells.{is_text, nonblank}
use Rattle.pb_certificate.specs.Fields.{StatesNumber, fields, project_in, same_fields, whole_within}
use Rattle.pb_certificate.specs.Refutations.{Weights, most_weight}
use Rattle.pb_certificate.specs.declared.refutations.weighting.Role.{Role}
use Rattle.pb_certificate.specs.declared.refutations.weighting.Role.TheVariants.{Least, Most, Left}
use Rattle.pb_certificate.specs.declared.refutations.weighting.Weighting.{Weighting}

-- the fields of the first and of the third head record; the second states the weight of Cover
abbrev pub refutation_name : List Field
refutation_name = codes "pb-refutation" ∷ codes "1" ∷ []

abbrev pub refutation_columns : List Field
refutation_columns = codes "role" ∷ codes "project" ∷ codes "weight" ∷ []

-- the first of these records names the format
abbrev pub starts_refutation : List Rec → Bool
starts_refutation [] = false
starts_refutation (first ∷ more) = same_fields (fields first) refutation_name

-- the first record that is not blank names the format
abbrev pub begins_refutation : List Rec → Bool
begins_refutation recs = starts_refutation (nonblank recs)

-- what a row states: a project by its position, and the role and the weight that it has
pub record WeightRow : Type 0 where
  pub project : ℕ
  pub states : Weighting

-- the role that a word names
abbrev pub role_in : Field → Option Role
role_in f =
    if bytes_eq f (codes "least") then Some Least
    else if bytes_eq f (codes "most") then Some Most
    else if bytes_eq f (codes "left") then Some Left
    else None

-- the weight that a field states
abbrev pub weight_in : Field → Option ℕ
weight_in f = whole_within 0 most_weight f

-- the row of a role, a project and a weight, where there is each of them
abbrev pub weight_row_from : Option Role → Option ℕ → Option ℕ → Option WeightRow
weight_row_from (Some x) (Some j) (Some n) = Some (record { project = j; states = record { role = x; weight = n } })
weight_row_from (Some x) (Some j) None = None
weight_row_from (Some x) None n = None
weight_row_from None j n = None

-- the row that three fields state: a role, a project's id and a weight. More or fewer fields state none
abbrev pub weight_row_by : Instance → List Field → Option WeightRow
weight_row_by e [] = None
weight_row_by e (f ∷ []) = None
weight_row_by e (f ∷ c ∷ []) = None
weight_row_by e (f ∷ c ∷ n ∷ []) = weight_row_from (role_in f) (project_in e c) (weight_in n)
weight_row_by e (f ∷ c ∷ n ∷ g ∷ gs) = None

-- what a record states as a row
abbrev pub weight_row_of : Instance → Rec → Option WeightRow
weight_row_of e r = weight_row_by e (fields r)

-- whether two rows are of one project
abbrev pub same_project : WeightRow → WeightRow → Bool
same_project a b = a.project == b.project

-- what the rows state of project j, where one of them is its row
abbrev pub stated_of : List WeightRow → ℕ → Option Weighting
stated_of [] j = None
stated_of (q ∷ qs) j = if q.project == j then Some q.states else stated_of qs j

-- what the rows state of each project, by position
abbrev pub stated_by : Instance → List WeightRow → List (Option Weighting)
stated_by e qs = map (stated_of qs) (all_projects e)

-- the records are the text of these weights
pub record IsRefutationText (recs : List Rec) (e : Instance) (r : Weights) : Type 0 where
  pub head : Rec
  pub cover : Rec
  pub columns : Rec
  pub rows : List Rec
  pub stated : List WeightRow
  pub cut : nonblank recs ≡ head ∷ cover ∷ columns ∷ rows
  pub text : AllByRecursion (λ x. IsTrue (is_text x)) (nonblank recs)
  pub is_head : fields head ≡ refutation_name
  pub is_cover : StatesNumber (codes "cover") 0 most_weight cover r.cover
  pub is_columns : fields columns ≡ refutation_columns
  pub each_row : map (weight_row_of e) rows ≡ map Some stated
  pub once : IsDistinct same_project stated
  pub same_rows : r.rows ≡ stated_by e stated
