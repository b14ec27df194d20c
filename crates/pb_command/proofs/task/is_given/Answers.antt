use Rattle.std.proofs.Common.{◌∙◌}
use Rattle.clap.specs.Words.{found_of, one_of, rows_of}
use Rattle.clap.proofs.WalkLemmas.{one_text-rows}
use Rattle.pb_command.proofs.Clap.Matches.{switch_read}
use Rattle.pb_command.proofs.task.is_given.Goals as goal

pub returns : goal.returns
returns c =
    let f = found_of c.args.matches.now in
    let same = one_text-rows f c.args.id.now in
    c.unwrap_or.ensures ∙ switch_read _ (one_of c.args.id.now (rows_of f)) c.get_one.result
    (λ e. c.get_one.ensures.none (same ∙ e)) (λ t e. c.get_one.ensures.value t (same ∙ e))
