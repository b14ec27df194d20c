use Rattle.std.proofs.Common.{◌∙◌, ap, subst, sym}
use Rattle.serde_json.specs.Data.{Data}
use Rattle.pb_json.specs.Refutations.{refutation_json}
use Rattle.serde_json.specs.Written.{compact_text}
use Rattle.pb_json.specs.Texts.{IsPlain, most_nested}
use Rattle.pb_json.proofs.Plain.{refutation_is_plain, plain_enough}
use Rattle.pb_audit.specs.Objects.{refutation_text}
use Rattle.pb_audit.proofs.objects.refutation_object.Goals as goal

pub new-requires : goal.new-requires
new-requires c =
    let e = c.args.decided.now.election in
    let w = c.args.decided.now.outcome.marks in
    subst (λ (d : Data). IsPlain most_nested d) (sym c.in_ok-object.ensures)
    (plain_enough (refutation_json e w c.args.weights.now.verdict c.args.weights.now.findings)
    (refutation_is_plain e w c.args.weights.now.verdict c.args.weights.now.findings))

pub returns : goal.returns
unfolding refutation_text
returns c = c.new.ensures ∙ ap compact_text c.in_ok-object.ensures
