use Rattle.std.proofs.Common.{◌∙◌, ap, subst, sym}
use Rattle.serde_json.specs.Data.{Data}
use Rattle.pb_json.specs.Margins.{margins_json}
use Rattle.serde_json.specs.Written.{compact_text}
use Rattle.pb_json.specs.Texts.{IsPlain, most_nested}
use Rattle.pb_json.proofs.Plain.{margins_are_plain, plain_enough}
use Rattle.pb_audit.specs.Objects.{margins_text}
use Rattle.pb_audit.proofs.objects.margins_object.Goals as goal

pub new-requires : goal.new-requires
new-requires c =
    let e = c.args.decided.now.election in
    let w = c.args.decided.now.outcome.marks in
    let m = c.args.margins.now in
    subst (λ (d : Data). IsPlain most_nested d) (sym c.in_ok-object.ensures)
    (plain_enough (margins_json e w m.grains_per_unit m.projects.items)
    (margins_are_plain e w m.grains_per_unit m.projects.items))

pub returns : goal.returns
unfolding margins_text
returns c = c.new.ensures ∙ ap compact_text c.in_ok-object.ensures
