use Rattle.std.proofs.Common.{◌≡◌, ◌∙◌, ap, subst}
use Rattle.pb_reply.specs.Replies.{Answer, Reply, answer_as, refused}
use Rattle.pb_reply.specs.Writing.{Writes}
use Rattle.pb_reply.specs.declared.answer.Format.{Format}
use Rattle.pb_reply.specs.declared.status.Status.{Status}
use Rattle.pb_run.specs.Asking.{format_of}
use Rattle.pb_run.proofs.folder.refuse.Goals as goal

pub returns : goal.returns
returns g c =
    let told = c.in_ok-reply.ensures ∙ ap refused c.unlisted.ensures in
    let answered =
    c.in_ok-answer.ensures.text
    ∙ ap (λ (f : Format). answer_as f c.in_ok-reply.reply) c.format_of.ensures
    ∙ ap (λ (r : Reply). answer_as (format_of c.args.json) r) told in
    subst
    (λ (a : Answer Status). Writes g.W.Sink (λ answer. answer ≡ a) c.write.result c.args.out.now c.write.new.out)
    answered c.write.ensures
