use Rattle.std.specs.Prelude.{fold, take}
use Rattle.clap.specs.Words.{new_app}
use Rattle.pb_command.specs.Commands.{IsCommand}
use Rattle.pb_command.specs.Descriptions.{with_parameter}
use Rattle.pb_command.proofs.command.command_of.Given as goal

abbrev pub invariant-loop-parameter : goal.invariant-loop-parameter
invariant-loop-parameter l =
    IsCommand (fold with_parameter (new_app l.description.name.now) (take l.parameter-index l.description.parameters.now)) l.command
