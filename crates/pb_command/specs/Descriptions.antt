-- What a description in the program's own table of commands stands for.
use Rattle.std.specs.Prelude.{fold}
use Rattle.clap.specs.Words.{App, Rule, new_app, with_rule, with_subcommand}
use Rattle.pb_command.specs.Commands.{certificate_rule, language_rule, outcome_rule, path_rule, satisfaction_rule, switch_rule}
use Rattle.pb_command.specs.declared.command.Description.{Description}
use Rattle.pb_command.specs.declared.command.Parameter.{Parameter}
use Rattle.pb_command.specs.declared.command.Parameter.TheVariants as parameter

abbrev pub rule_of_parameter : Parameter → Rule
rule_of_parameter (parameter.Path id name help) = path_rule id.now
rule_of_parameter (parameter.Certificate help) = certificate_rule
rule_of_parameter (parameter.Switch name help) = switch_rule name.now
rule_of_parameter parameter.Outcome = outcome_rule
rule_of_parameter parameter.Language = language_rule
rule_of_parameter parameter.Satisfaction = satisfaction_rule

abbrev pub with_parameter : App → Parameter → App
with_parameter a p = with_rule a (rule_of_parameter p)

-- a command of this name, with these parameters in turn
abbrev pub app_described : Description → App
app_described e = fold with_parameter (new_app e.name.now) e.parameters.now

-- a program with one more command
abbrev pub with_described : App → Description → App
with_described a e = with_subcommand a (app_described e).top
