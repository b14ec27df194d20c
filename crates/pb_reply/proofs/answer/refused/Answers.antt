use Rattle.std.proofs.Common.{subst, sym}
use Rattle.serde_json.specs.Data.{Data}
use Rattle.pb_json.specs.Answers.{refusal_json}
use Rattle.pb_json.specs.Texts.{IsPlain, most_nested}
use Rattle.pb_json.proofs.Plain.{plain_enough, refusal_is_plain}
use Rattle.pb_reply.proofs.answer.refused.Goals as goal

pub new-object-requires : goal.new-object-requires
new-object-requires c =
    subst (λ (d : Data). IsPlain most_nested d) (sym c.in_ok-refusal_json.ensures)
    (plain_enough (refusal_json c.args.refusal) (refusal_is_plain c.args.refusal))
