use Rattle.std.proofs.Common.{◌∙◌, ap}
use Rattle.std.specs.Prelude.{is_some}
use Rattle.std.specs.Str.{bytes_eq}
use Rattle.pb_election.specs.Names.{is_among}
use Rattle.pb_election.specs.Inside.Ids.{ids_kept}
use Rattle.pb_election.proofs.IdLemmas.{found-place}
use Rattle.pb_election.proofs.order.Order.has.Goals as goal

pub returns : goal.returns
returns c =
    let id = c.args.id.now in
    c.contains_key.ensures ∙ ap is_some (c.self.invariant.each id)
    ∙ found-place (bytes_eq id) 0 (ids_kept c.self.inside.texts.items) ∙ ap (λ ids. is_among ids id) c.self.view_is
