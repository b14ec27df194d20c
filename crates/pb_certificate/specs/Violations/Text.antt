-- The text of a violation certificate.
use Rattle.std.specs.Prelude.{◌≡◌, ◌||◌, IsTrue, ℕ, Bool, false, List, [], ◌∷◌, ◌++◌, filter, codes}
use Rattle.std.specs.List.{AllByRecursion}
use Rattle.pb_election.specs.Instance.{Instance, all_projects, all_voters}
use Rattle.pb_records.specs.Records.{Field, Rec}
use Rattle.pb_records.specs.Cells.{is_text, nonblank}
use Rattle.pb_certificate.specs.Fields.{fields, same_fields}
use Rattle.pb_certificate.specs.NamedRows.{Named, RowsName, was_named}
use Rattle.pb_certificate.specs.NamedRows.Named.{Voter, Project}
use Rattle.pb_certificate.specs.declared.violations.measure.Measure.{Measure}
use Rattle.pb_certificate.specs.declared.violations.measure.Measure.TheVariants.{ByCount, ByCost}

-- the fields of the first head record, in either version
abbrev pub version_1 : List Field
version_1 = codes "pb-violation" ∷ codes "1" ∷ []

abbrev pub version_2 : List Field
version_2 = codes "pb-violation" ∷ codes "2" ∷ []

abbrev pub is_version_1 : Rec → Bool
is_version_1 r = same_fields (fields r) version_1

abbrev pub is_version_2 : Rec → Bool
is_version_2 r = same_fields (fields r) version_2

-- the first of these records is the first head record, in either version
abbrev pub starts_with_head : List Rec → Bool
starts_with_head [] = false
starts_with_head (first ∷ more) = is_version_1 first || is_version_2 first

-- the first record that is not blank is the first head record
abbrev pub begins_violation : List Rec → Bool
begins_violation recs = starts_with_head (nonblank recs)

-- the fields of the second head record, which states the measure
abbrev pub satisfaction_by : Measure → List Field
satisfaction_by ByCount = codes "satisfaction" ∷ codes "count" ∷ []
satisfaction_by ByCost = codes "satisfaction" ∷ codes "cost" ∷ []

-- the head records state this measure: version 1 has one head record and counts, version 2 has a second one
abbrev pub StateMeasure : Measure → List Rec → Type 0
StateMeasure m [] = ⊥
StateMeasure m (head ∷ []) = (fields head ≡ version_1) × (m ≡ ByCount)
StateMeasure m (head ∷ second ∷ []) = (fields head ≡ version_2) × (fields second ≡ satisfaction_by m)
StateMeasure m (head ∷ second ∷ third ∷ more) = ⊥

-- the records are the text of this measure, this group and this demand
pub record IsViolationText (recs : List Rec) (e : Instance) (m : Measure) (group demand : List ℕ) : Type 0 where
  pub heads : List Rec
  pub rows : List Rec
  pub names : List Named
  pub cut : nonblank recs ≡ heads ++ rows
  pub text : AllByRecursion (λ r. IsTrue (is_text r)) (nonblank recs)
  pub measure : StateMeasure m heads
  pub named : RowsName e rows names
  pub same_group : group ≡ filter (λ i. was_named names (Voter i)) (all_voters e)
  pub same_demand : demand ≡ filter (λ j. was_named names (Project j)) (all_projects e)
