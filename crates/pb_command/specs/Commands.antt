-- The table of commands, as a simple command of clap.
use Rattle.std.specs.Prelude.{◌≡◌, false, true, List, [], ◌∷◌, Some, codes, fold}
use Rattle.clap.specs.Words.{App, Rule, Text, app_of, new_app, new_rule}
use Rattle.clap.specs.Words.{with_rule, with_subcommand}
use Rattle.clap.specs.declared.builder.action.ArgAction.TheVariants.{SetTrue}
use Rattle.clap.specs.declared.builder.command.Command.{Command}
use Rattle.clap.specs.declared.builder.command.Command.TheViews.{out-Command}

-- the command reads words as `app` says, and no argument of it is global
abbrev pub IsCommand : App → Command → Type 0
IsCommand app c = (app_of c ≡ app) × ((out-Command c).has_globals ≡ false)

-- a path that the command needs
abbrev pub path_rule : Text → Rule
path_rule id = record (new_rule id) { value_names = 1; required = true }

-- the path of a certificate that may be left out
abbrev pub certificate_rule : Rule
certificate_rule = record (new_rule (codes "certificate")) { value_names = 1 }

-- a switch, `--name`
abbrev pub switch_rule : Text → Rule
switch_rule name = record (new_rule name) { long = Some name; action = Some SetTrue }

-- `--outcome FILE`
abbrev pub outcome_rule : Rule
outcome_rule = record (new_rule (codes "outcome")) { long = Some (codes "outcome"); value_names = 1 }

-- `--language CODE`
abbrev pub language_rule : Rule
language_rule = record (new_rule (codes "language")) { long = Some (codes "language"); value_names = 1 }

-- `--satisfaction MEASURE`
abbrev pub satisfaction_rule : Rule
satisfaction_rule =
    record (new_rule (codes "satisfaction")) { long = Some (codes "satisfaction"); value_names = 1 }

abbrev pub command_of : Text → List Rule → App
command_of name rules = fold with_rule (new_app name) rules

-- the command answers `--version`
abbrev pub with_version : App → App
with_version a = record a { top = record a.top { has_version = true } }

-- `read ELECTION [--json]`
unfoldable pub read_app : App
read_app = command_of (codes "read") (path_rule (codes "election") ∷ switch_rule (codes "json") ∷ [])

-- `groups ELECTION [--satisfaction MEASURE] [--outcome FILE] [--json]`
unfoldable pub groups_app : App
groups_app = command_of (codes "groups")
    (path_rule (codes "election") ∷ satisfaction_rule ∷ outcome_rule ∷ switch_rule (codes "json") ∷ [])

-- `prices ELECTION CERTIFICATE [--stable] [--no-exhaustive] [--cover] [--outcome FILE] [--json]`
unfoldable pub prices_app : App
prices_app = command_of (codes "prices") (path_rule (codes "election") ∷ path_rule (codes "certificate")
    ∷ switch_rule (codes "stable") ∷ switch_rule (codes "no-exhaustive") ∷ switch_rule (codes "cover") ∷ outcome_rule
    ∷ switch_rule (codes "json") ∷ [])

-- `violation ELECTION CERTIFICATE [--outcome FILE] [--json]`
unfoldable pub violation_app : App
violation_app = command_of (codes "violation")
    (path_rule (codes "election") ∷ path_rule (codes "certificate") ∷ outcome_rule ∷ switch_rule (codes "json") ∷ [])

-- `refutation ELECTION CERTIFICATE [--stable] [--outcome FILE] [--json]`
unfoldable pub refutation_app : App
refutation_app = command_of (codes "refutation")
    (path_rule (codes "election") ∷ path_rule (codes "certificate") ∷ switch_rule (codes "stable") ∷ outcome_rule
    ∷ switch_rule (codes "json") ∷ [])

-- `both ELECTION PRICES VIOLATION [--stable] [--no-exhaustive] [--cover] [--outcome FILE] [--json]`
unfoldable pub both_app : App
both_app = command_of (codes "both")
    (path_rule (codes "election") ∷ path_rule (codes "prices") ∷ path_rule (codes "violation")
    ∷ switch_rule (codes "stable") ∷ switch_rule (codes "no-exhaustive") ∷ switch_rule (codes "cover") ∷ outcome_rule
    ∷ switch_rule (codes "json") ∷ [])

-- `explain ELECTION CERTIFICATE [--stable] [--no-exhaustive] [--cover] [--outcome FILE] [--json]`, and
-- `explain ELECTION --groups [--satisfaction MEASURE] [--outcome FILE] [--json]`
unfoldable pub explain_app : App
explain_app = command_of (codes "explain") (path_rule (codes "election") ∷ certificate_rule ∷ switch_rule (codes "groups")
    ∷ satisfaction_rule ∷ switch_rule (codes "stable") ∷ switch_rule (codes "no-exhaustive")
    ∷ switch_rule (codes "cover") ∷ outcome_rule ∷ switch_rule (codes "json") ∷ [])

-- `page ELECTION CERTIFICATE [--stable] [--no-exhaustive] [--cover] [--outcome FILE] [--language CODE]`, and
-- `page ELECTION --groups [--satisfaction MEASURE] [--outcome FILE] [--language CODE]`
unfoldable pub page_app : App
page_app = command_of (codes "page") (path_rule (codes "election") ∷ certificate_rule ∷ switch_rule (codes "groups")
    ∷ satisfaction_rule ∷ switch_rule (codes "stable") ∷ switch_rule (codes "no-exhaustive")
    ∷ switch_rule (codes "cover") ∷ outcome_rule ∷ language_rule ∷ [])

-- `margins ELECTION CERTIFICATE [--outcome FILE] [--json]`, and
-- `margins ELECTION --groups [--satisfaction MEASURE] [--outcome FILE] [--json]`
unfoldable pub margins_app : App
margins_app = command_of (codes "margins")
    (path_rule (codes "election") ∷ certificate_rule ∷ switch_rule (codes "groups") ∷ satisfaction_rule ∷ outcome_rule
    ∷ switch_rule (codes "json") ∷ [])

-- `tidy ELECTION CERTIFICATE`
unfoldable pub tidy_app : App
tidy_app = command_of (codes "tidy") (path_rule (codes "election") ∷ path_rule (codes "certificate") ∷ [])

-- `folder FOLDER [--stable] [--no-exhaustive] [--cover] [--json]`
unfoldable pub folder_app : App
folder_app = command_of (codes "folder")
    (path_rule (codes "folder") ∷ switch_rule (codes "stable") ∷ switch_rule (codes "no-exhaustive")
    ∷ switch_rule (codes "cover") ∷ switch_rule (codes "json") ∷ [])

abbrev pub with_apps : App → List App → App
with_apps program apps = fold (λ a (s : App). with_subcommand a s.top) program apps

-- `pbaudit` with its first commands, with those behind them, and with all
unfoldable pub with_questions : App
with_questions = with_apps (with_version (new_app (codes "pbaudit")))
    (read_app ∷ groups_app ∷ prices_app ∷ violation_app ∷ refutation_app ∷ both_app ∷ [])

unfoldable pub with_tables : App
with_tables = with_apps with_questions (explain_app ∷ page_app ∷ margins_app ∷ [])

unfoldable pub pbaudit : App
pbaudit = with_apps with_tables (tidy_app ∷ folder_app ∷ [])
