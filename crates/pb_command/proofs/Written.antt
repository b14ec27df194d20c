-- What a proof unfolds to compute with the table of commands.
use Rattle.std.specs.Prelude.{⊤}
use Rattle.pb_command.specs.Commands.{both_app, explain_app, folder_app, groups_app, margins_app, page_app, pbaudit, prices_app, read_app, refutation_app, tidy_app, violation_app, with_questions, with_tables}

unfoldable pub commands_written : ⊤
unfolding pbaudit with_tables with_questions read_app groups_app prices_app violation_app refutation_app both_app explain_app page_app margins_app tidy_app folder_app
commands_written = tt
