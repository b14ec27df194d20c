use Rattle.std.proofs.Common.{arith}
use Rattle.pb_command.proofs.Clap.Building.{adds_rule, gone_through, same_command, takes_next}
use Rattle.pb_command.proofs.command.command_of.Goals as goal

pub loop-parameter-init : goal.loop-parameter-init
loop-parameter-init c = grind arith

pub loop-parameter-preserved : goal.loop-parameter-preserved
loop-parameter-preserved c = grind (arith, takes_next, adds_rule)

pub returns : goal.returns
returns c = grind (arith, same_command, gone_through)
