use Rattle.std.specs.Prelude.{fold, take}
use Rattle.clap.specs.Words.{App}
use Rattle.pb_command.specs.Commands.{IsCommand}
use Rattle.pb_command.specs.Descriptions.{with_described}
use Rattle.pb_command.proofs.command.with_commands.Given as goal

abbrev pub invariant-loop-description : goal.invariant-loop-description
invariant-loop-description l =
    (app : App) → IsCommand app l.fn.program → IsCommand (fold with_described app (take l.description-index l.descriptions)) l.command
