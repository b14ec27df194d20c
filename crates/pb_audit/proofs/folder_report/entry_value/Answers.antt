use Rattle.std.proofs.Common.{◌∙◌, ap, rules, subst, sym}
use Rattle.std.proofs.lemmas.Result.{IfOk-weaker}
use Rattle.serde_json.specs.Data.{Data}
use Rattle.serde_json.specs.Read.{max_depth}
use Rattle.serde_json.specs.Written.{compact_text}
use Rattle.pb_json.specs.Texts.{IsPlain}
use Rattle.pb_json.proofs.Plain.{entry_is_plain}
use Rattle.pb_audit.proofs.JsonLines.{entry_written}
use Rattle.pb_audit.proofs.folder_report.entry_value.Goals as goal

pub returns-clause-value : goal.returns-clause-value
returns-clause-value c =
    IfOk-weaker c.entry_json.result _ _
    (λ v is. ap compact_text is ∙ entry_written c.args.name.now _ _ _ ∙ search rules)
    c.entry_json.ensures

pub returns-clause-plain : goal.returns-clause-plain
returns-clause-plain c =
    IfOk-weaker c.entry_json.result _ _
    (λ v is. subst (λ (d : Data). IsPlain max_depth d) (sym is)
    (entry_is_plain c.args.name.now _ _ _ c.into_value-election.ensures.plain c.value_of-prices.ensures.plain c.value_of-violation.ensures.plain))
    c.entry_json.ensures
