use Rattle.std.proofs.Common.{◌∙◌, arith}
use Rattle.clap.specs.Words.{found_of}
use Rattle.clap.proofs.WalkLemmas.{first_value-rows}
use Rattle.pb_command.proofs.task.text_of.Goals as goal

pub returns-in_ok-from_str-in-Some : goal.returns-in_ok-from_str-in-Some
returns-in_ok-from_str-in-Some c = grind (arith, first_value-rows)

pub returns-in-None : goal.returns-in-None
returns-in-None c = c.in-None.ensures ∙ first_value-rows (found_of c.args.matches.now) c.args.id.now
