use Rattle.std.proofs.Common.{◌∙◌, sym, ap}
use Rattle.std.specs.Prelude.{not}
use Rattle.pb_election.proofs.IdLemmas.{id-empty, id-full}
use Rattle.pb_election.proofs.ids.is_id.Goals as goal

pub returns-then-not-is_empty : goal.returns-then-not-is_empty
returns-then-not-is_empty c = ap not c.has_control.ensures
    ∙ sym (id-full c.args.id.now (sym c.is_empty.ensures ∙ c.if-not-is_empty.true))

pub returns-else-not-is_empty : goal.returns-else-not-is_empty
returns-else-not-is_empty c = ap not c.if-not-is_empty.false
    ∙ sym (id-empty c.args.id.now (sym c.is_empty.ensures ∙ c.if-not-is_empty.false))
