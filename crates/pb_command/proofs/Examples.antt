-- The definitions at words that are written out.
use Rattle.std.proofs.Common.{◌≡◌, refl, false, true, List, [], ◌∷◌, Some, None, codes}
use Rattle.clap.specs.Words.{Text, fault_of, takes}
use Rattle.clap.specs.declared.error.kind.ErrorKind.TheVariants as kind
use Rattle.clap.proofs.OnLiterals.{clap_on_literals}
use Rattle.pb_certificate.specs.declared.violations.measure.Measure.TheVariants.{ByCost, ByCount}
use Rattle.pb_command.specs.Commands.{pbaudit}
use Rattle.pb_command.proofs.Written.{commands_written}
use Rattle.pb_command.specs.Tasks.{TaskOf, asked_in, explain, explain_groups, faults_of, folder, group_margins, groups, margins, page, prices, read, tidy, violation}
use Rattle.pb_words.specs.declared.language.Language.TheVariants.{Polish}

bare_task : TaskOf (codes "pbaudit" ∷ []) ≡ Some (read None false)
unfolding clap_on_literals commands_written asked_in
bare_task = refl

bare_taken : takes pbaudit (codes "pbaudit" ∷ []) ≡ true
unfolding clap_on_literals commands_written
bare_taken = refl

abbrev read_words : List Text
read_words = codes "pbaudit" ∷ codes "read" ∷ codes "e.pb" ∷ []

read_task : TaskOf read_words ≡ Some (read (Some (codes "e.pb")) false)
unfolding clap_on_literals commands_written asked_in
read_task = refl

read_taken : takes pbaudit read_words ≡ true
unfolding clap_on_literals commands_written
read_taken = refl

abbrev groups_words : Text → List Text
groups_words measure = codes "pbaudit" ∷ codes "groups" ∷ codes "e.pb" ∷ codes "--satisfaction" ∷ measure ∷ []

groups_task : TaskOf (codes "pbaudit" ∷ codes "groups" ∷ codes "e.pb" ∷ [])
    ≡ Some (groups (record { election = codes "e.pb"; outcome = None; json = false }) (Some ByCost))
unfolding clap_on_literals commands_written asked_in
groups_task = refl

groups_count_task : TaskOf (groups_words (codes "count"))
    ≡ Some (groups (record { election = codes "e.pb"; outcome = None; json = false }) (Some ByCount))
unfolding clap_on_literals commands_written asked_in
groups_count_task = refl

groups_taken : takes pbaudit (groups_words (codes "count")) ≡ true
unfolding clap_on_literals commands_written
groups_taken = refl

no_measure : faults_of (groups_words (codes "size")) ≡ kind.InvalidValue ∷ []
unfolding clap_on_literals commands_written asked_in
no_measure = refl

-- groups in the certificate's place

explain_groups_task : TaskOf
    (codes "pbaudit" ∷ codes "explain" ∷ codes "e.pb" ∷ codes "--groups" ∷ codes "--satisfaction" ∷ codes "count" ∷ [])
    ≡ Some (explain_groups (record { election = codes "e.pb"; outcome = None; json = false }) (Some ByCount))
unfolding clap_on_literals commands_written asked_in
explain_groups_task = refl

group_margins_task : TaskOf
    (codes "pbaudit" ∷ codes "margins" ∷ codes "--groups" ∷ codes "e.pb" ∷ codes "--outcome" ∷ codes "o.csv" ∷ [])
    ≡ Some
    (group_margins (record { election = codes "e.pb"; outcome = Some (codes "o.csv"); json = false }) (Some ByCost))
unfolding clap_on_literals commands_written asked_in
group_margins_task = refl

-- a table as JSON

margins_task : TaskOf
    (codes "pbaudit" ∷ codes "margins" ∷ codes "e.pb" ∷ codes "c.csv" ∷ codes "--json" ∷ [])
    ≡ Some (margins (record { election = codes "e.pb"; certificate = codes "c.csv"; outcome = None; json = true }))
unfolding clap_on_literals commands_written asked_in
margins_task = refl

groups_in_place_taken : takes pbaudit (codes "pbaudit" ∷ codes "margins" ∷ codes "--groups" ∷ codes "e.pb" ∷ []) ≡ true
unfolding clap_on_literals commands_written
groups_in_place_taken = refl

neither_about : faults_of (codes "pbaudit" ∷ codes "explain" ∷ codes "e.pb" ∷ []) ≡ kind.MissingRequiredArgument ∷ []
unfolding clap_on_literals commands_written asked_in
neither_about = refl

-- a path without a letter is one
both_about : faults_of (codes "pbaudit" ∷ codes "explain" ∷ codes "e.pb" ∷ codes "" ∷ codes "--groups" ∷ [])
    ≡ kind.ArgumentConflict ∷ []
unfolding clap_on_literals commands_written asked_in
both_about = refl

conditions_beside_groups : faults_of
    (codes "pbaudit" ∷ codes "explain" ∷ codes "e.pb" ∷ codes "--groups" ∷ codes "--no-exhaustive" ∷ [])
    ≡ kind.ArgumentConflict ∷ []
unfolding clap_on_literals commands_written asked_in
conditions_beside_groups = refl

measure_without_groups : faults_of
    (codes "pbaudit" ∷ codes "margins" ∷ codes "e.pb" ∷ codes "c.csv" ∷ codes "--satisfaction" ∷ codes "cost" ∷ [])
    ≡ kind.MissingRequiredArgument ∷ []
unfolding clap_on_literals commands_written asked_in
measure_without_groups = refl

no_measure_in_place : faults_of
    (codes "pbaudit" ∷ codes "margins" ∷ codes "e.pb" ∷ codes "--groups" ∷ codes "--satisfaction" ∷ codes "size" ∷ [])
    ≡ kind.InvalidValue ∷ []
unfolding clap_on_literals commands_written asked_in
no_measure_in_place = refl

abbrev stable_words : List Text
stable_words = codes "pbaudit" ∷ codes "prices" ∷ codes "e.pb" ∷ codes "c.csv" ∷ codes "--stable" ∷ []

stable_task : TaskOf stable_words
    ≡ Some
    (prices (record { election = codes "e.pb"; certificate = codes "c.csv"; outcome = None; json = false })
    (record { stable = true; exhaustive = true; cover = false }))
unfolding clap_on_literals commands_written asked_in
stable_task = refl

stable_taken : takes pbaudit stable_words ≡ true
unfolding clap_on_literals commands_written
stable_taken = refl

abbrev outcome_words : List Text
outcome_words = codes "pbaudit" ∷ codes "prices" ∷ codes "e.pb" ∷ codes "c.csv" ∷ codes "--outcome" ∷ codes "o.csv"
    ∷ codes "--no-exhaustive" ∷ []

abbrev json_words : List Text
json_words = codes "pbaudit" ∷ codes "explain" ∷ codes "e.pb" ∷ codes "--json" ∷ codes "c.csv" ∷ []

json_task : TaskOf json_words
    ≡ Some
    (explain (record { election = codes "e.pb"; certificate = codes "c.csv"; outcome = None; json = true })
    (record { stable = false; exhaustive = true; cover = false }))
unfolding clap_on_literals commands_written asked_in
json_task = refl

outcome_task : TaskOf outcome_words
    ≡ Some
    (prices (record { election = codes "e.pb"; certificate = codes "c.csv"; outcome = Some (codes "o.csv"); json = false })
    (record { stable = false; exhaustive = false; cover = false }))
unfolding clap_on_literals commands_written asked_in
outcome_task = refl

one_path : fault_of pbaudit (codes "pbaudit" ∷ codes "prices" ∷ codes "e.pb" ∷ []) ≡ kind.MissingRequiredArgument ∷ []
unfolding clap_on_literals commands_written
one_path = refl

abbrev violation_words : List Text
violation_words = codes "pbaudit" ∷ codes "violation" ∷ codes "e.pb" ∷ codes "v.csv" ∷ codes "--outcome" ∷ codes "o.csv"
    ∷ []

violation_task : TaskOf violation_words
    ≡ Some
    (violation (record { election = codes "e.pb"; certificate = codes "v.csv"; outcome = Some (codes "o.csv"); json = false }))
unfolding clap_on_literals commands_written asked_in
violation_task = refl

violation_taken : takes pbaudit violation_words ≡ true
unfolding clap_on_literals commands_written
violation_taken = refl

abbrev page_words : Text → List Text
page_words code = codes "pbaudit" ∷ codes "page" ∷ codes "e.pb" ∷ codes "c.csv" ∷ codes "--language" ∷ code ∷ []

page_task : TaskOf (page_words (codes "pl"))
    ≡ Some
    (page (record { election = codes "e.pb"; certificate = codes "c.csv"; outcome = None; json = false })
    (record { stable = false; exhaustive = true; cover = false }) (Some Polish))
unfolding clap_on_literals commands_written asked_in
page_task = refl

page_taken : takes pbaudit (page_words (codes "pl")) ≡ true
unfolding clap_on_literals commands_written
page_taken = refl

no_language : faults_of (page_words (codes "xx")) ≡ kind.InvalidValue ∷ []
unfolding clap_on_literals commands_written asked_in
no_language = refl

abbrev tidy_words : List Text
tidy_words = codes "pbaudit" ∷ codes "tidy" ∷ codes "e.pb" ∷ codes "c.csv" ∷ []

tidy_task : TaskOf tidy_words
    ≡ Some (tidy (record { election = codes "e.pb"; certificate = codes "c.csv"; outcome = None; json = false }))
unfolding clap_on_literals commands_written asked_in
tidy_task = refl

tidy_taken : takes pbaudit tidy_words ≡ true
unfolding clap_on_literals commands_written
tidy_taken = refl

abbrev folder_words : List Text
folder_words = codes "pbaudit" ∷ codes "folder" ∷ codes "d" ∷ codes "--no-exhaustive" ∷ codes "--json" ∷ []

folder_task : TaskOf folder_words
    ≡ Some (folder (codes "d") (record { stable = false; exhaustive = false; cover = false }) true)
unfolding clap_on_literals commands_written asked_in
folder_task = refl

folder_taken : takes pbaudit folder_words ≡ true
unfolding clap_on_literals commands_written
folder_taken = refl

no_path : fault_of pbaudit (codes "pbaudit" ∷ codes "read" ∷ []) ≡ kind.MissingRequiredArgument ∷ []
unfolding clap_on_literals commands_written
no_path = refl

help_asked : fault_of pbaudit (codes "pbaudit" ∷ codes "--help" ∷ []) ≡ kind.DisplayHelp ∷ []
unfolding clap_on_literals commands_written
help_asked = refl

version_asked : fault_of pbaudit (codes "pbaudit" ∷ codes "--version" ∷ []) ≡ kind.DisplayVersion ∷ []
unfolding clap_on_literals commands_written
version_asked = refl
