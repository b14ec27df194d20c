use Rattle.pb_command.specs.Commands.{explain_app, margins_app, page_app, with_tables}
use Rattle.pb_command.proofs.command.with_tables.Goals as goal

pub returns : goal.returns
unfolding with_tables explain_app margins_app page_app
returns c = c.with_commands.ensures _ c.in_ok-with_questions.ensures
