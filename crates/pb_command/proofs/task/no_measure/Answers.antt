use Rattle.pb_command.proofs.task.no_measure.Goals as goal

pub returns : goal.returns
returns c = c.words_refused.ensures _ (λ e. cc) (λ e. cc)
