-- What is told of a report: the lines, the object and the status of its reply, for an election and an outcome.
use Rattle.std.specs.Prelude.{◌++◌, if◌then◌else◌, Bool, List, [], ◌∷◌, Option, Some, Result, Ok, Err}
use Rattle.pb_election.specs.Instance.{Instance}
use Rattle.pb_cohesion.specs.Shown.{shown}
use Rattle.pb_explain.specs.GroupLines.{group_lines}
use Rattle.pb_explain.specs.PriceTable.{price_table}
use Rattle.pb_explain.specs.RefutationTable.{refutation_table}
use Rattle.pb_explain.specs.ShownGroup.{shown_table}
use Rattle.pb_explain.specs.ViolationTable.{violation_table}
use Rattle.pb_records.specs.Records.{Text}
use Rattle.pb_reply.specs.Inside.Taking.{reply_why}
use Rattle.pb_reply.specs.Replies.{Reply}
use Rattle.pb_reply.specs.declared.unanswered.Unanswered.{Unanswered}
use Rattle.pb_report.specs.Found.{on_groups_by, price_verdict, status_of, verdict_lines}
use Rattle.pb_report.specs.declared.certificate.CertificateFound.{CertificateFound}
use Rattle.pb_report.specs.declared.certificate.CertificateFound.TheVariants as found
use Rattle.pb_report.specs.declared.prices.PricesFound.{PricesFound}
use Rattle.pb_report.specs.declared.report.Report.{Report}
use Rattle.pb_report.specs.declared.report.Report.TheVariants.{Both, Certificate, Groups}
use Rattle.pb_audit.specs.Both.{is_yes}
use Rattle.pb_audit.specs.Explained.{groups_told}
use Rattle.pb_audit.specs.Objects.{both_text, groups_text, price_text, refutation_text, violation_text}
use Rattle.pb_audit.specs.declared.rendering.Rendering.{Rendering}

-- the table of what each condition or test comes to
abbrev pub prices_table : Instance → PricesFound → List Text
prices_table e p =
    price_table p.mode e p.findings ++ groups_told (price_verdict p) (group_lines e (on_groups_by p) p.nearest)

abbrev pub certificate_table : Instance → CertificateFound → List Text
certificate_table e (found.Prices p) = prices_table e p
certificate_table e (found.Group g) = violation_table g.violation.measure e g.findings
certificate_table e (found.Weights r) = refutation_table e r.refutation r.findings

abbrev pub table_told : Instance → Report → List Text
table_told e (Certificate c) = certificate_table e c
table_told e (Groups g) = shown_table g.measure e (shown g.figures.items)
table_told e (Both p g) = []

-- the lines: the verdict, and where it is explained, the table behind an empty line
abbrev pub lines_told : Instance → Rendering → List Text
lines_told e r =
    verdict_lines e r.report ++ (if r.explained then [] ∷ table_told e r.report else [])

-- the text of the object
abbrev pub certificate_text : Instance → List Bool → CertificateFound → Text
certificate_text e w (found.Prices p) = price_text p.mode e w (price_verdict p) p.findings p.nearest
certificate_text e w (found.Group g) = violation_text g.violation.measure e w g.verdict g.findings
certificate_text e w (found.Weights r) = refutation_text e w r.verdict r.findings

abbrev pub object_told : Instance → List Bool → Report → Text
object_told e w (Certificate c) = certificate_text e w c
object_told e w (Groups g) = groups_text g.measure e w g.figures.items
object_told e w (Both p g) =
    both_text p.mode e w (price_verdict p) p.findings g.violation.measure g.verdict g.findings
    (is_yes (status_of (Both p g)))

-- the reply
abbrev pub reply_of : Instance → List Bool → Rendering → Reply
reply_of e w r = record {
  lines = lines_told e r;
  json = object_told e w r.report;
  status = status_of r.report;
}

-- the reply that tells what some work came to, memory aside: the reply on its report, or why there is none
abbrev pub told_as : Instance → List Bool → Result Rendering Unanswered → Option Reply
told_as e w (Ok r) = Some (reply_of e w r)
told_as e w (Err why) = reply_why why
