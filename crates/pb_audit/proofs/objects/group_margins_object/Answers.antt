use Rattle.std.proofs.Common.{◌∙◌, List, ap, subst, sym}
use Rattle.serde_json.specs.Data.{Data}
use Rattle.pb_cohesion.specs.declared.GroupFigures.{GroupFigures}
use Rattle.pb_json.specs.Margins.{group_margins_json}
use Rattle.serde_json.specs.Written.{compact_text}
use Rattle.pb_json.specs.Texts.{IsPlain, most_nested}
use Rattle.pb_json.proofs.Plain.{group_margins_are_plain, plain_enough}
use Rattle.pb_audit.specs.Objects.{group_margins_text}
use Rattle.pb_audit.proofs.objects.group_margins_object.Goals as goal

pub new-requires : goal.new-requires
new-requires c =
    let e = c.args.decided.now.election in
    let w = c.args.decided.now.outcome.marks in
    let m = c.args.groups.now.measure in
    subst (λ (d : Data). IsPlain most_nested d) (sym c.in_ok-object.ensures)
    (plain_enough (group_margins_json m e w c.deref.result.now) (group_margins_are_plain m e w c.deref.result.now))

pub returns : goal.returns
unfolding group_margins_text
returns c =
    let e = c.args.decided.now.election in
    let w = c.args.decided.now.outcome.marks in
    let m = c.args.groups.now.measure in
    c.new.ensures
    ∙ ap compact_text c.in_ok-object.ensures
    ∙ ap (λ (xs : List GroupFigures). compact_text (group_margins_json m e w xs)) c.deref.ensures.value
