use Rattle.std.proofs.Common.{arith}
use Rattle.pb_command.proofs.command.bare_program.Goals as goal

pub returns : goal.returns
returns c = grind arith
