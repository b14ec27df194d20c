use Rattle.pb_command.specs.Commands.{both_app, groups_app, prices_app, read_app, refutation_app, violation_app, with_questions}
use Rattle.pb_command.proofs.command.with_questions.Goals as goal

pub returns : goal.returns
unfolding with_questions both_app groups_app prices_app read_app refutation_app violation_app
returns c = c.with_commands.ensures _ c.bare_program.ensures
