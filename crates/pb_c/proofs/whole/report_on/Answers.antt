use Rattle.std.proofs.Common.{◌≡◌, ◌∙◌, List, ℕ, ap, subst, sym}
use Rattle.std.specs.Prelude.{option_map}
use Rattle.std.proofs.lemmas.Result.{IfOk-weaker}
use Rattle.pb_audit.specs.Questions.{Answers}
use Rattle.pb_c.specs.Files.{given_file}
use Rattle.pb_reply.specs.Inputs.{in_memory}
use Rattle.pb_reply.specs.Replies.{Answer}
use Rattle.pb_reply.specs.Turns.{gives, gives_file}
use Rattle.pb_reply.specs.declared.answer.Format.TheVariants.{JsonAndLines}
use Rattle.pb_reply.specs.declared.status.Status.{Status}
use Rattle.pb_c.proofs.whole.report_on.Goals as goal

pub returns : goal.returns
returns c =
    let same : (a : Answer Status) → a ≡ record { text = c.deref-2.result.now; status = c.answer.inside.status }
    → a ≡ c.in_ok-answer.answer =
    λ a is. is
    ∙ ap (λ (t : List ℕ). record { text = t; status = c.answer.inside.status }) c.deref-2.ensures.value
    ∙ c.answer.view_is in
    IfOk-weaker c.whole.result _ _
    (λ w is. record {
      answer = is.answer;
      of_inputs = subst
          (λ (a : Answer Status). Answers JsonAndLines c.args.question (gives (in_memory c.args.election.now))
          (gives_file (option_map in_memory (given_file c.args.has_outcome c.args.outcome.now)))
          (gives (in_memory c.args.certificate.now)) (gives (in_memory c.args.violation.now)) a)
          (sym (same is.answer is.of_inputs)) c.in_ok-answer.ensures;
      notes = is.notes;
      at = is.at;
      sentences = is.sentences;
      text = is.text;
      ends = is.ends;
    })
    c.whole.ensures
