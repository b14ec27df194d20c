use Rattle.std.proofs.Common.{◌∙◌, subst, sym}
use Rattle.std.specs.Prelude.{IfSome, Option, option_map}
use Rattle.pb_audit.specs.Questions.{Answers}
use Rattle.pb_audit.specs.declared.question.Question.{Question}
use Rattle.pb_c.specs.Files.{given_file}
use Rattle.pb_c.specs.Reports.{Reports}
use Rattle.pb_c.proofs.Reported.{reported}
use Rattle.pb_reply.specs.Inputs.{in_memory}
use Rattle.pb_reply.specs.Turns.{gives, gives_file}
use Rattle.pb_reply.specs.declared.answer.Format.TheVariants.{Json}
use Rattle.pb_c.proofs.pbaudit_json.Goals as goal

pub returns-clause-answer : goal.returns-clause-answer
returns-clause-answer c =
    subst
    (λ (o : Option Question). IfSome o (λ q. Reports (Answers Json q (gives (in_memory c.args.election.now))
    (gives_file (option_map in_memory (given_file c.args.has_outcome c.args.outcome.now)))
    (gives (in_memory c.args.certificate.now)) (gives (in_memory c.args.violation.now))) c.report.result
    c.args.out.now c.report.new.out c.report.new.needed))
    (sym c.in-Some.is ∙ c.question_of.ensures)
    (reported _ c.answer_on-object.result _ _ _ _ c.answer_on-object.ensures c.report.ensures.reported
    c.report.ensures.memory_out)
