use Rattle.clap.specs.Words.{found_of, rows_of}
use Rattle.pb_command.specs.Tasks.{about_in}
use Rattle.pb_command.proofs.Abouts.{handed_on, margins_refusal}
use Rattle.pb_command.proofs.task.margins_task.Goals as goal

pub returns-in_err-inputs-clause-refused : goal.returns-in_err-inputs-clause-refused
returns-in_err-inputs-clause-refused c =
    handed_on _ _ _ c.from_residual.ensures
    (margins_refusal (about_in (rows_of (found_of c.args.matches.now))) c.in_err-inputs.field-0.0
    c.in_err-inputs.ensures.refused)
