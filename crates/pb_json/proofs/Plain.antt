-- What this crate makes has no number with a fraction, and doesn't nest deep.
use Rattle.std.proofs.Common.{◌≡◌, ◌+◌, ◌≤◌, ℕ, Bool, false, List, [], ◌∷◌, refl, arith}
use Rattle.std.specs.Prelude.{codes, Option, Some, None, map, option_map}
use Rattle.std.specs.List.{AllByRecursion, zip}
use Rattle.serde_json.specs.Data.{Data, items_depth}
use Rattle.serde_json.specs.Read.{max_depth}
use Rattle.serde_json.specs.View.{items_of}
use Rattle.serde_json.specs.Written.{items_have_float}
use Rattle.pb_records.proofs.Each.{all-append, all-every, all-if, all-map}
use Rattle.pb_records.specs.Records.{Text}
use Rattle.pb_election.specs.Instance.{Instance, all_projects, id_of}
use Rattle.pb_election.specs.declared.columns.UnusedColumns.{UnusedColumns}
use Rattle.pb_certificate.specs.declared.violations.measure.Measure.{Measure}
use Rattle.pb_cohesion.specs.Failed.{Failed, refutation_failed, short_failed, violation_failed}
use Rattle.pb_cohesion.specs.Shown.{first_short, shown}
use Rattle.pb_cohesion.specs.declared.GroupFigures.{GroupFigures}
use Rattle.pb_cohesion.specs.declared.MisplacedRows.{MisplacedRows}
use Rattle.pb_cohesion.specs.declared.MissingApprovals.{MissingApprovals}
use Rattle.pb_cohesion.specs.declared.RefutationFindings.{RefutationFindings}
use Rattle.pb_cohesion.specs.declared.RefutationVerdict.{RefutationVerdict}
use Rattle.pb_cohesion.specs.declared.RefutationVerdict.TheVariants as refutation_verdict
use Rattle.pb_cohesion.specs.declared.ViolationFindings.{ViolationFindings}
use Rattle.pb_cohesion.specs.declared.ViolationVerdict.{ViolationVerdict}
use Rattle.pb_cohesion.specs.declared.ViolationVerdict.TheVariants as violation_verdict
use Rattle.pb_price.specs.Condition.{all_conditions, found, is_asked, name}
use Rattle.pb_price.specs.Told.{price_failed}
use Rattle.pb_price.specs.declared.Comparison.{Comparison}
use Rattle.pb_input.specs.declared.InputRefusal.{InputRefusal}
use Rattle.pb_price.specs.declared.condition.Found.{Found}
use Rattle.pb_price.specs.declared.condition.Found.TheVariants.{Totals, Payments, Voters, Projects}
use Rattle.pb_price.specs.declared.Findings.{Findings}
use Rattle.pb_cohesion.specs.declared.Mode.{Mode}
use Rattle.pb_price.specs.declared.ProjectMargins.{ProjectMargins}
use Rattle.pb_price.specs.declared.Verdict.{Verdict}
use Rattle.pb_price.specs.declared.nearest.NearestGroup.{NearestGroup}
use Rattle.pb_price.specs.declared.Verdict.TheVariants as verdict
use Rattle.pb_json.specs.Answers.{both_json, refusal_json}
use Rattle.pb_json.specs.Beside.{beside_json, hint_json, texts_json}
use Rattle.pb_json.specs.Folders.{entry_json, total_json}
use Rattle.pb_json.specs.Elections.{column, columns, columns_json, election_json, funded, outcome_json, read_json}
use Rattle.pb_json.specs.Texts.{IsPlain, most_nested}
use Rattle.pb_json.specs.Members.{amount, balance, count, list, or_null, text}
use Rattle.pb_json.specs.Places.{at_both, failed_json, nowhere, pair_or_null, place_at, place_json, place_or_null, project_json, voter_json}
use Rattle.pb_json.specs.Groups as groups
use Rattle.pb_json.specs.Margins as margins
use Rattle.pb_json.specs.Prices as prices
use Rattle.pb_json.specs.Refutations as refutations
use Rattle.pb_json.specs.Violations as violations
use Rattle.pb_json.specs.declared.places.At.{At}
use Rattle.pb_json.specs.declared.places.At.TheVariants.{Voter, Project}
use Rattle.pb_json.specs.declared.places.Place.{Place}

-- lists of what is plain
items-plain : (k : ℕ) (ds : List Data) → AllByRecursion (IsPlain k) ds
    → (items_have_float (items_of ds) ≡ false) × (items_depth (items_of ds) ≤ k)
items-plain k [] each = (refl, omega arith)
items-plain k (d ∷ ds) each = grind (arith, items-plain k ds)

pub list-plain : (k : ℕ) (ds : List Data) → AllByRecursion (IsPlain k) ds → IsPlain (k + 1) (list ds)
list-plain k ds each = grind (arith, items-plain k ds)

-- margins
each-plain : {A : Type 0} (k : ℕ) (told : A → Data) (xs : List A) → ((x : A) → IsPlain k (told x))
    → AllByRecursion (IsPlain k) (map told xs)
each-plain k told xs each = all-map (IsPlain k) told xs (all-every (λ x. IsPlain k (told x)) xs each)

pub or-null-plain : {A : Type 0} (k : ℕ) (told : A → Data) (o : Option A) → ((x : A) → IsPlain k (told x))
    → IsPlain k (or_null told o)
or-null-plain k told None each = (refl, omega arith)
or-null-plain k told (Some x) each = each x

-- what has no parts
leaf : (k : ℕ) → (false ≡ false) × (0 ≤ k)
leaf k = (refl, omega arith)

-- places
voter-plain : (voter : Option ℕ) → IsPlain 0 (voter_json voter)
voter-plain voter = or-null-plain 0 count voter (λ i. leaf 0)

project-plain : (e : Instance) (project : Option ℕ) → IsPlain 0 (project_json e project)
project-plain e project = or-null-plain 0 (λ j. text (id_of e j)) project (λ j. leaf 0)

place-plain : (e : Instance) (p : Place) → IsPlain 1 (place_json e p)
place-plain e p = grind (arith, project-plain e p.project, voter-plain p.voter)

place-or-null-plain : (e : Instance) (place : Option Place) → IsPlain 1 (place_or_null e place)
place-or-null-plain e place = or-null-plain 1 (place_json e) place (place-plain e)

pair-or-null-plain : (e : Instance) (pair : Option (ℕ × ℕ)) → IsPlain 1 (pair_or_null e pair)
pair-or-null-plain e pair = or-null-plain 1 (λ q. place_json e (at_both q)) pair (λ q. place-plain e (at_both q))

failed-plain : (e : Instance) (f : Failed) → IsPlain 1 (failed_json e f)
failed-plain e f = grind (arith, project-plain e f.project, voter-plain f.voter)

-- elections
column-plain : (name : Text) (has : Bool) → AllByRecursion (IsPlain 0) (column name has)
column-plain name has = all-if (IsPlain 0) has (text name ∷ []) [] (leaf 0, tt) tt

columns-plain : (unused : UnusedColumns) → IsPlain 1 (columns_json unused)
columns-plain unused =
    let each : AllByRecursion (IsPlain 0) (columns unused) =
    all-append (IsPlain 0) _ _
    (all-append (IsPlain 0) _ _ (column-plain (codes "weight") unused.weight) (column-plain (codes "points") unused.points))
    (column-plain (codes "sign") unused.sign) in
    grind (arith, list-plain 0 (columns unused) each)

count-plain : (n : Option ℕ) → IsPlain 0 (or_null count n)
count-plain n = or-null-plain 0 count n (λ x. leaf 0)

text-plain : (s : Option Text) → IsPlain 0 (or_null text s)
text-plain s = or-null-plain 0 text s (λ x. leaf 0)

election-plain : (e : Instance) → IsPlain 2 (election_json e)
election-plain e =
    grind (arith, count-plain e.declared_projects, count-plain e.declared_votes, count-plain (option_map funded e.selected), columns-plain e.unused)

outcome-plain : (e : Instance) (w : List Bool) → IsPlain 1 (outcome_json e w)
outcome-plain e w = grind arith

pub read_is_plain : (e : Instance) → IsPlain 4 (read_json e)
read_is_plain e = grind (arith, election-plain e)

-- prices
sums-plain : (e : Instance) (sum : Data) (bound : ℕ) (p : Place) → IsPlain 0 sum
    → IsPlain 1 (prices.sums_json e sum bound p)
sums-plain e sum bound p plain = grind (arith, project-plain e p.project, voter-plain p.voter)

comparison-plain : (e : Instance) (at : At) (shown : Option Comparison)
    → IsPlain 1 (prices.comparison_or_null e at shown)
comparison-plain e at shown =
    or-null-plain 1 _ shown (λ m. sums-plain e (balance m.amount) m.bound (place_at at m.at) (leaf 0))

first-plain : (e : Instance) (f : Found) → IsPlain 1 (prices.first_culprit e f)
first-plain e (Totals it_holds total limit) = leaf 1
first-plain e (Payments f) = pair-or-null-plain e f.first
first-plain e (Voters f) = place-or-null-plain e (option_map (place_at Voter) f.first)
first-plain e (Projects f) = place-or-null-plain e (option_map (place_at Project) f.first)

shown-plain : (e : Instance) (f : Found) → IsPlain 1 (prices.shown_json e f)
shown-plain e (Totals it_holds total limit) = sums-plain e (amount total) limit nowhere (leaf 0)
shown-plain e (Payments f) = leaf 1
shown-plain e (Voters f) = comparison-plain e Voter f.shown
shown-plain e (Projects f) = comparison-plain e Project f.shown

found-plain : (e : Instance) (name : Text) (asked : Bool) (f : Found) → IsPlain 2 (prices.found_json e name asked f)
found-plain e name asked f = grind (arith, first-plain e f, shown-plain e f)

conditions-plain : (m : Mode) (e : Instance) (f : Findings) → IsPlain 3 (prices.conditions_json m e f)
conditions-plain m e f =
    list-plain 2 (map (λ c. prices.found_json e (name c) (is_asked m c) (found f c)) all_conditions)
    (each-plain 2 (λ c. prices.found_json e (name c) (is_asked m c) (found f c)) all_conditions
    (λ c. found-plain e (name c) (is_asked m c) (found f c)))

prices-failed-plain : (e : Instance) (v : Verdict) → IsPlain 1 (prices.first_failed e v)
prices-failed-plain e verdict.Supported = leaf 1
prices-failed-plain e (verdict.Failed f) = failed-plain e (price_failed f)

over-plain : (e : Instance) (d : Data) → IsPlain 0 d → IsPlain 1 (groups.over_voters e d)
over-plain e d h = grind arith

nearest-plain : (e : Instance) (nearest : Option NearestGroup) → IsPlain 2 (or_null (groups.nearest_json e) nearest)
nearest-plain e nearest = or-null-plain 2 (groups.nearest_json e) nearest (λ g. grind (arith, over-plain e))

pub prices_are_plain : (m : Mode) (e : Instance) (w : List Bool) (v : Verdict) (f : Findings) (n : Option NearestGroup)
    → IsPlain 4 (prices.prices_json m e w v f n)
prices_are_plain m e w v f n =
    grind (arith, conditions-plain m e f, election-plain e, prices-failed-plain e v, text-plain (prices.groups_said m v f), nearest-plain e n, outcome-plain e w)

-- violations
v1-plain : (f : ViolationFindings) → IsPlain 2 (violations.v1_json f)
v1-plain f = grind arith

v2-plain : (e : Instance) (f : MissingApprovals) → IsPlain 2 (violations.v2_json e f)
v2-plain e f = grind (arith, pair-or-null-plain e f.first)

v3-plain : (e : Instance) (f : ViolationFindings) → IsPlain 2 (violations.v3_json e f)
v3-plain e f = grind arith

member-plain : (i : Option ℕ) → IsPlain 1 (or_null violations.member_json i)
member-plain i = or-null-plain 1 violations.member_json i (λ x. grind arith)

v4-plain : (f : ViolationFindings) → IsPlain 2 (violations.v4_json f)
v4-plain f = grind (arith, member-plain f.satisfied.first)

violation-tests-plain : (e : Instance) (f : ViolationFindings) → IsPlain 3 (violations.tests_json e f)
violation-tests-plain e f = grind (arith, v1-plain f, v2-plain e f.unapproved, v3-plain e f, v4-plain f)

violation-failed-plain : (e : Instance) (v : ViolationVerdict) → IsPlain 1 (violations.first_failed e v)
violation-failed-plain e violation_verdict.Violation = leaf 1
violation-failed-plain e (violation_verdict.Failed f) = failed-plain e (violation_failed f)

pub violation_is_plain : (m : Measure) (e : Instance) (w : List Bool) (v : ViolationVerdict) (f : ViolationFindings)
    → IsPlain 4 (violations.violation_json m e w v f)
violation_is_plain m e w v f =
    grind (arith, election-plain e, violation-failed-plain e v, outcome-plain e w, violation-tests-plain e f)

-- refutations
row-plain : (e : Instance) (j : Option ℕ) → IsPlain 1 (or_null (refutations.row_json e) j)
row-plain e j = or-null-plain 1 (refutations.row_json e) j (λ x. grind arith)

u1-plain : (e : Instance) (f : MisplacedRows) → IsPlain 2 (refutations.u1_json e f)
u1-plain e f = grind (arith, row-plain e f.first)

counted-plain : (n : Option ℕ) → IsPlain 0 (or_null amount n)
counted-plain n = or-null-plain 0 amount n (λ x. grind arith)

u2-plain : (f : RefutationFindings) → IsPlain 2 (refutations.u2_json f)
u2-plain f = grind (arith, counted-plain f.counted_stable)

u3-plain : (f : RefutationFindings) → IsPlain 2 (refutations.u3_json f)
u3-plain f = grind arith

refutation-tests-plain : (e : Instance) (f : RefutationFindings) → IsPlain 3 (refutations.tests_json e f)
refutation-tests-plain e f = grind (arith, u1-plain e f.misplaced, u2-plain f, u3-plain f)

refutation-failed-plain : (e : Instance) (v : RefutationVerdict) → IsPlain 1 (refutations.first_failed e v)
refutation-failed-plain e refutation_verdict.Unpriceable = leaf 1
refutation-failed-plain e refutation_verdict.UnpriceableUnderCover = leaf 1
refutation-failed-plain e refutation_verdict.UnpriceableStable = leaf 1
refutation-failed-plain e refutation_verdict.UnpriceableStableUnderCover = leaf 1
refutation-failed-plain e (refutation_verdict.Failed f) = failed-plain e (refutation_failed f)

pub refutation_is_plain : (e : Instance) (w : List Bool) (v : RefutationVerdict) (f : RefutationFindings)
    → IsPlain 4 (refutations.refutation_json e w v f)
refutation_is_plain e w v f =
    grind (arith, election-plain e, refutation-failed-plain e v, outcome-plain e w, text-plain (refutations.proved v), refutation-tests-plain e f)

-- groups that fall short
group-plain : (e : Instance) (x : GroupFigures) → IsPlain 2 (groups.group_json e x)
group-plain e x = grind (arith, over-plain e)

short-plain : (e : Instance) (x : Option GroupFigures) → IsPlain 1 (groups.failed_groups e x)
short-plain e x = or-null-plain 1 _ x (λ x. failed-plain e (short_failed x.project))

pub groups_are_plain : (m : Measure) (e : Instance) (w : List Bool) (xs : List GroupFigures)
    → IsPlain 4 (groups.groups_json m e w xs)
groups_are_plain m e w xs =
    let group = or-null-plain 2 (groups.group_json e) (shown xs) (group-plain e) in
    let short = short-plain e (first_short xs) in grind (arith, election-plain e, outcome-plain e w)

margin-plain : (e : Instance) (q : ℕ × ProjectMargins) → IsPlain 1 (margins.margin_json e q)
margin-plain e q = grind (arith, project-plain e (Some q.0))

projects-plain : (e : Instance) (ms : List ProjectMargins) → IsPlain 2 (margins.projects_json e ms)
projects-plain e ms = list-plain 1 _ (each-plain 1 (margins.margin_json e) (zip (all_projects e) ms) (margin-plain e))

pub margins_are_plain : (e : Instance) (w : List Bool) (grains_per_unit : ℕ) (ms : List ProjectMargins)
    → IsPlain 4 (margins.margins_json e w grains_per_unit ms)
margins_are_plain e w grains_per_unit ms = grind (arith, election-plain e, outcome-plain e w, projects-plain e ms)

each-group-plain : (e : Instance) (xs : List GroupFigures) → IsPlain 3 (margins.each_group_json e xs)
each-group-plain e xs = list-plain 2 _ (each-plain 2 (groups.group_json e) xs (group-plain e))

pub group_margins_are_plain : (m : Measure) (e : Instance) (w : List Bool) (xs : List GroupFigures)
    → IsPlain 4 (margins.group_margins_json m e w xs)
group_margins_are_plain m e w xs = grind (arith, election-plain e, outcome-plain e w, each-group-plain e xs)

-- both, and refusals
pub both_are_plain : (all : Bool) (p v : Data) → IsPlain 4 p → IsPlain 4 v → IsPlain 5 (both_json all p v)
both_are_plain all p v prices-plain violation-plain = grind arith

pub refusal_is_plain : (r : InputRefusal) → IsPlain 4 (refusal_json r)
refusal_is_plain r = grind arith

-- the report on a folder
pub entry_is_plain : (name : Text) (e p v : Data) → IsPlain most_nested e → IsPlain most_nested p → IsPlain most_nested v
    → IsPlain max_depth (entry_json name e p v)
entry_is_plain name e p v election-plain prices-plain violation-plain = grind arith

pub total_is_plain : (elections yeses noes refused : ℕ)
    → IsPlain max_depth (total_json elections yeses noes refused)
total_is_plain elections yeses noes refused = grind arith

-- what stands beside an answer
texts-plain : (texts : List Text) → IsPlain 1 (texts_json texts)
texts-plain texts = list-plain 0 (map text texts) (each-plain 0 text texts (λ s. leaf 0))

hint-plain : (line : Option ℕ) (sentences : List Text) → IsPlain 2 (hint_json line sentences)
hint-plain line [] = leaf 2
hint-plain line (s ∷ ss) = grind (arith, count-plain line, texts-plain (s ∷ ss))

pub beside_is_plain : (notes : List Text) (refusal : Option InputRefusal) (line : Option ℕ) (sentences : List Text)
    → IsPlain 5 (beside_json notes refusal line sentences)
beside_is_plain notes refusal line sentences =
    let refused = or-null-plain 4 refusal_json refusal refusal_is_plain in
    grind (arith, hint-plain line sentences, texts-plain notes)

-- none nests too deep to stand in another
pub plain_enough : (d : Data) → IsPlain 4 d → IsPlain most_nested d
plain_enough d plain = (plain.0, omega (arith, plain.1))

pub both_plain_enough : (d : Data) → IsPlain 5 d → IsPlain most_nested d
both_plain_enough d plain = (plain.0, omega (arith, plain.1))
