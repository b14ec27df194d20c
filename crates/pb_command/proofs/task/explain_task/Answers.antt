use Rattle.clap.specs.Words.{found_of, rows_of}
use Rattle.pb_command.specs.Tasks.{about_in, mode_in}
use Rattle.pb_command.proofs.Abouts.{explained_refusal, handed_on}
use Rattle.pb_command.proofs.task.explain_task.Goals as goal

pub returns-in_err-inputs-clause-refused : goal.returns-in_err-inputs-clause-refused
returns-in_err-inputs-clause-refused c =
    let rows = rows_of (found_of c.args.matches.now) in
    handed_on _ _ _ c.from_residual.ensures
    (explained_refusal (mode_in rows) (about_in rows) c.in_err-inputs.field-0.0 c.in_err-inputs.ensures.refused)
