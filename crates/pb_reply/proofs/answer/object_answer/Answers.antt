use Rattle.std.proofs.Common.{◌∷◌, [], rules}
use Rattle.pb_reply.proofs.answer.object_answer.Goals as goal

pub returns-clause-json : goal.returns-clause-json
returns-clause-json c = (_ ∷ [], (search rules, (c.in_ok-object.ensures.json, tt)))
