-- The task that a line of words asks for.
use Rattle.std.specs.Prelude.{◌≡◌, ◌≢◌, ◌⊎◌, ◌||◌, Bool, false, not, is_some, Option, Some, None, option_map, List, [], ◌∷◌}
use Rattle.std.specs.Prelude.{codes, if◌then◌else◌, string_bytes}
use Rattle.std.specs.Option.{option_map_or}
use Rattle.std.specs.Str.{bytes_eq}
use Rattle.clap.specs.Kinds.{or_else}
use Rattle.clap.specs.Words.{IsAmong, Kinds, Row, Text, fault_of, first_of, one_of, subcommand_of}
use Rattle.clap.specs.declared.error.kind.ErrorKind.{ErrorKind}
use Rattle.clap.specs.declared.error.kind.ErrorKind.TheVariants as kind
use Rattle.pb_certificate.specs.declared.violations.measure.Measure.{Measure}
use Rattle.pb_certificate.specs.declared.violations.measure.Measure.TheVariants.{ByCost, ByCount}
use Rattle.pb_command.specs.Commands.{pbaudit}
use Rattle.pb_cohesion.specs.declared.Mode.{Mode}
use Rattle.pb_command.specs.declared.task.Inputs.{Inputs}
use Rattle.pb_command.specs.declared.task.OutcomeInputs.{OutcomeInputs}
use Rattle.pb_command.specs.declared.task.Subject.{Subject}
use Rattle.pb_command.specs.declared.task.Subject.TheVariants as subject
use Rattle.pb_command.specs.declared.task.Task.{Task}
use Rattle.pb_command.specs.declared.task.Task.TheVariants as task
use Rattle.pb_command.specs.declared.task.UsageFault.{UsageFault}
use Rattle.pb_command.specs.declared.task.UsageFault.TheVariants as fault
use Rattle.pb_words.specs.Languages.{language_of}
use Rattle.pb_words.specs.declared.language.Language.{Language}
use Rattle.pb_words.specs.declared.language.Language.TheVariants.{English}

-- what commands on a certificate share: the paths of the election, of the certificate, and of an outcome file, where one
-- is named; and whether the answer is to be a JSON object
pub record Paths : Type 0 where
  pub election : Text
  pub certificate : Text
  pub outcome : Option Text
  pub json : Bool

-- what commands on an outcome without a certificate share
pub record OutcomePaths : Type 0 where
  pub election : Text
  pub outcome : Option Text
  pub json : Bool

-- what `explain`, `page` and `margins` are about: a certificate; or groups that fall short, with no measure where there is none of
-- the name that is given; or it isn't clear what, which is an error of this kind
pub data About : Type 0 where
  of_certificate : Paths → About
  of_groups : OutcomePaths → Option Measure → About
  of_neither : ErrorKind → About

-- a task, with its paths as text; where groups are asked about there is no measure if there is none of the name that is
-- given; `both` has the price certificate among the shared paths, and then the violation certificate; `page` has no
-- language where there is none of the code that is given; and where it isn't clear what is asked about, that is an error
-- of this kind
pub data Asked : Type 0 where
  read : Option Text → Bool → Asked
  groups : OutcomePaths → Option Measure → Asked
  prices : Paths → Mode → Asked
  violation : Paths → Asked
  refutation : Paths → Bool → Asked
  both : Paths → Text → Mode → Asked
  explain : Paths → Mode → Asked
  explain_groups : OutcomePaths → Option Measure → Asked
  page : Paths → Mode → Option Language → Asked
  groups_page : OutcomePaths → Option Measure → Option Language → Asked
  margins : Paths → Asked
  group_margins : OutcomePaths → Option Measure → Asked
  unclear : ErrorKind → Asked
  tidy : Paths → Asked
  folder : Text → Mode → Bool → Asked

abbrev pub paths : Inputs → Paths
paths i = record {
  election = string_bytes i.election;
  certificate = string_bytes i.certificate;
  outcome = option_map string_bytes i.outcome;
  json = i.json;
}

abbrev pub outcome_paths : OutcomeInputs → OutcomePaths
outcome_paths i = record {
  election = string_bytes i.election;
  outcome = option_map string_bytes i.outcome;
  json = i.json;
}

abbrev pub about : Subject → About
about (subject.Certificate i) = of_certificate (paths i)
about (subject.Groups i k) = of_groups (outcome_paths i) (Some k)

abbrev pub asked : Task → Asked
asked (task.Read e json) = read (option_map string_bytes e) json
asked (task.Groups i k) = groups (outcome_paths i) (Some k)
asked (task.Prices i m) = prices (paths i) m
asked (task.Violation i) = violation (paths i)
asked (task.Refutation i stable) = refutation (paths i) stable
asked (task.Both i v m) = both (paths i) (string_bytes v) m
asked (task.Explain i m) = explain (paths i) m
asked (task.ExplainGroups i k) = explain_groups (outcome_paths i) (Some k)
asked (task.Page i m l) = page (paths i) m (Some l)
asked (task.GroupsPage i k l) = groups_page (outcome_paths i) (Some k) (Some l)
asked (task.Margins i) = margins (paths i)
asked (task.GroupMargins i k) = group_margins (outcome_paths i) (Some k)
asked (task.Tidy i) = tidy (paths i)
asked (task.Folder f m json) = folder (string_bytes f) m json

-- the switch is among the words
abbrev pub is_on : List Row → Text → Bool
is_on rows id = option_map_or (λ t. bytes_eq t (codes "true")) (one_of id rows) false

-- the mode of the switches: plain, with Exhaustive and without Cover where there is none
abbrev pub mode_in : List Row → Mode
mode_in rows = record {
  stable = is_on rows (codes "stable");
  exhaustive = not (is_on rows (codes "no-exhaustive"));
  cover = is_on rows (codes "cover");
}

-- the language whose code is given, and English without one
abbrev pub language_in : List Row → Option Language
language_in rows = option_map_or language_of (first_of (codes "language") rows) (Some English)

-- the measure of this name
abbrev pub measure_of : Text → Option Measure
measure_of name =
    if bytes_eq name (codes "cost") then Some ByCost
    else (if bytes_eq name (codes "count") then Some ByCount else None)

-- the measure whose name is given, and that by cost without one
abbrev pub measure_in : List Row → Option Measure
measure_in rows = option_map_or measure_of (first_of (codes "satisfaction") rows) (Some ByCost)

-- what is made of two things, where both are there
abbrev pub from_both : {A B C : Type 0} → (A → B → C) → Option A → Option B → Option C
from_both make (Some a) (Some b) = Some (make a b)
from_both make _ _ = None

-- the shared paths, with that of the certificate by the name of this argument
abbrev pub paths_in : Text → List Row → Option Paths
paths_in certificate rows =
    from_both
    (λ e c. record {
      election = e;
      certificate = c;
      outcome = first_of (codes "outcome") rows;
      json = is_on rows (codes "json");
    })
    (first_of (codes "election") rows) (first_of certificate rows)

-- the shared paths without a certificate
abbrev pub outcome_paths_in : List Row → Option OutcomePaths
outcome_paths_in rows =
    option_map
    (λ e. record { election = e; outcome = first_of (codes "outcome") rows; json = is_on rows (codes "json") })
    (first_of (codes "election") rows)

-- the argument was given
abbrev pub is_named : List Row → Text → Bool
is_named rows id = is_some (first_of id rows)

-- a condition on prices is asked for or left out
abbrev pub names_conditions : List Row → Bool
names_conditions rows =
    is_on rows (codes "stable") || (is_on rows (codes "no-exhaustive") || is_on rows (codes "cover"))

-- `--groups` stands in the certificate's place, and conditions on prices have none beside it
abbrev pub about_groups : List Row → Option About
about_groups rows =
    if is_named rows (codes "certificate") || names_conditions rows then Some (of_neither kind.ArgumentConflict)
    else option_map (λ p. of_groups p (measure_in rows)) (outcome_paths_in rows)

-- a certificate is needed, and has no measure beside it
abbrev pub about_certificate : List Row → Option About
about_certificate rows =
    if is_named rows (codes "satisfaction") || not (is_named rows (codes "certificate"))
    then Some (of_neither kind.MissingRequiredArgument)
    else option_map of_certificate (paths_in (codes "certificate") rows)

abbrev pub about_in : List Row → Option About
about_in rows = if is_on rows (codes "groups") then about_groups rows else about_certificate rows

-- what is asked for of that
abbrev pub explained : Mode → About → Asked
explained m (of_certificate p) = explain p m
explained m (of_groups p k) = explain_groups p k
explained m (of_neither k) = unclear k

abbrev pub paged : Mode → Option Language → About → Asked
paged m l (of_certificate p) = page p m l
paged m l (of_groups p k) = groups_page p k l
paged m l (of_neither k) = unclear k

abbrev pub with_margins : About → Asked
with_margins (of_certificate p) = margins p
with_margins (of_groups p k) = group_margins p k
with_margins (of_neither k) = unclear k

-- the table of commands: what each asks for by its matches
abbrev pub asked_by : Text → List Row → Option Asked
asked_by name rows =
    let shared = paths_in (codes "certificate") rows in
    if bytes_eq name (codes "read") then option_map (λ e. read (Some e) (is_on rows (codes "json"))) (first_of (codes "election") rows)
    else (if bytes_eq name (codes "groups")
    then option_map (λ p. groups p (measure_in rows)) (outcome_paths_in rows)
    else (if bytes_eq name (codes "prices") then option_map (λ p. prices p (mode_in rows)) shared
    else (if bytes_eq name (codes "violation") then option_map violation shared
    else (if bytes_eq name (codes "refutation") then option_map (λ p. refutation p (is_on rows (codes "stable"))) shared
    else (if bytes_eq name (codes "both")
    then from_both (λ p v. both p v (mode_in rows)) (paths_in (codes "prices") rows)
    (first_of (codes "violation") rows)
    else (if bytes_eq name (codes "explain") then option_map (explained (mode_in rows)) (about_in rows)
    else (if bytes_eq name (codes "page")
    then option_map (paged (mode_in rows) (language_in rows)) (about_in rows)
    else (if bytes_eq name (codes "margins") then option_map with_margins (about_in rows)
    else (if bytes_eq name (codes "tidy") then option_map tidy shared
    else (if bytes_eq name (codes "folder")
    then option_map (λ f. folder f (mode_in rows) (is_on rows (codes "json"))) (first_of (codes "folder") rows)
    else None))))))))))

-- without a command, standard input is read
unfoldable pub asked_in : Option (Text × List Row) → Option Asked
asked_in met = option_map_or (λ p. asked_by p.0 p.1) met (Some (read None false))

-- the task that the words ask for
abbrev pub TaskOf : List Text → Option Asked
TaskOf words = asked_in (subcommand_of pbaudit words)

-- the fault where a measure is asked for that there isn't, or where it isn't clear what is asked about
abbrev pub about_fault : Option About → Kinds
about_fault (Some (of_groups p None)) = kind.InvalidValue ∷ []
about_fault (Some (of_neither k)) = k ∷ []
about_fault _ = []

-- the fault of a value that is none: a measure or a language that there isn't; or that it isn't clear what is asked about
abbrev pub value_fault : Option Asked → Kinds
value_fault (Some (groups p None)) = kind.InvalidValue ∷ []
value_fault (Some (explain_groups p None)) = kind.InvalidValue ∷ []
value_fault (Some (group_margins p None)) = kind.InvalidValue ∷ []
value_fault (Some (unclear k)) = k ∷ []
value_fault (Some (page p m None)) = kind.InvalidValue ∷ []
value_fault (Some (groups_page p None l)) = kind.InvalidValue ∷ []
value_fault (Some (groups_page p (Some k) None)) = kind.InvalidValue ∷ []
value_fault _ = []

-- the kinds of error that the words may give: those of clap, and else that of a value
abbrev pub faults_of : List Text → Kinds
faults_of words = or_else (fault_of pbaudit words) (value_fault (TaskOf words))

-- the fault that stands for an error of this kind
abbrev pub FitsKind : ErrorKind → UsageFault → Type 0
FitsKind k (fault.Help text) = (k ≡ kind.DisplayHelp) ⊎ (k ≡ kind.DisplayVersion)
FitsKind k (fault.Usage text) = (k ≢ kind.DisplayHelp) × (k ≢ kind.DisplayVersion)
FitsKind k fault.Memory = k ≡ kind.OutOfMemory

-- out of memory, or the fault of one of the kinds
abbrev pub IsFaultOf : Kinds → UsageFault → Type 0
IsFaultOf kinds f = (f ≡ fault.Memory) ⊎ ((k : ErrorKind) × IsAmong k kinds × FitsKind k f)

-- out of memory, or a measure or a language was asked for that there isn't, or it isn't clear what is asked about
abbrev pub IsRefusalOf : Option Asked → UsageFault → Type 0
IsRefusalOf met = IsFaultOf (value_fault met)

-- the same where it is only known what is asked about
abbrev pub IsRefusalAbout : Option About → UsageFault → Type 0
IsRefusalAbout about = IsFaultOf (about_fault about)

-- it isn't help, and so stands for an error of any other kind
abbrev pub IsNoHelp : UsageFault → Type 0
IsNoHelp f = (k : ErrorKind) → k ≢ kind.DisplayHelp → k ≢ kind.DisplayVersion → (f ≡ fault.Memory) ⊎ FitsKind k f
