use Rattle.std.proofs.Common.{◌∙◌, subst, sym}
use Rattle.std.specs.Prelude.{IfSome, Option, option_map}
use Rattle.pb_audit.specs.Questions.{Answers}
use Rattle.pb_audit.specs.declared.question.Question.{Question}
use Rattle.pb_c.specs.Files.{given_file}
use Rattle.pb_c.specs.Reports.{ReportsFacts}
use Rattle.pb_c.proofs.Reported.{reported_facts}
use Rattle.pb_reply.specs.Inputs.{in_memory}
use Rattle.pb_reply.specs.Turns.{gives, gives_file}
use Rattle.pb_reply.specs.declared.answer.Format.TheVariants.{Lines}
use Rattle.pb_c.proofs.pbaudit_answer.Goals as goal

pub returns-clause-answer : goal.returns-clause-answer
returns-clause-answer c =
    subst
    (λ (o : Option Question). IfSome o (λ q. ReportsFacts (Answers Lines q (gives (in_memory c.args.election.now))
    (gives_file (option_map in_memory (given_file c.args.has_outcome c.args.outcome.now)))
    (gives (in_memory c.args.certificate.now)) (gives (in_memory c.args.violation.now))) c.report_facts.result
    c.report_facts.new.facts c.args.out.now c.report_facts.new.out c.report_facts.new.needed))
    (sym c.in-Some.is ∙ c.question_of.ensures)
    (reported_facts _ c.answer_on-answer.result _ _ _ _ _ c.answer_on-answer.ensures c.report_facts.ensures.reported
    c.report_facts.ensures.memory_out)
