use Rattle.std.proofs.Common.{refl}
use Rattle.pb_command.specs.Commands.{folder_app, pbaudit, tidy_app}
use Rattle.pb_command.proofs.Clap.Building.{same_command}
use Rattle.pb_command.proofs.command.pbaudit_command.Goals as goal

pub returns : goal.returns
unfolding pbaudit tidy_app folder_app
returns c = same_command c.in_ok-all.all c.after_help.result _ _
    (c.in_ok-all.ensures _ c.in_ok-with_tables.ensures) c.after_help.ensures refl refl
