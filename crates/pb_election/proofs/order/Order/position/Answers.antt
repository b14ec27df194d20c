use Rattle.std.proofs.Common.{◌≡◌, ◌∙◌, ◌+◌, [], ap, arith, length, sym}
use Rattle.std.proofs.lemmas.Grind.{common_steps}
use Rattle.std.proofs.lemmas.List.{length-map}
use Rattle.std.specs.List.{position_from}
use Rattle.std.specs.Option.{option_map}
use Rattle.std.specs.Str.{bytes_eq}
use Rattle.pb_election.specs.Inside.Ids.{ids_kept}
use Rattle.pb_election.proofs.Elections.{position_from-at}
use Rattle.pb_election.proofs.IdLemmas.{position-next}
use Rattle.pb_election.proofs.order.Order.position.Goals as goal

pub returns-in_err-index-clause-value : goal.returns-in_err-index-clause-value
returns-in_err-index-clause-value c =
    let id = c.args.id.now in
    c.from_residual.ensures
    ∙ ap (option_map (λ i. i + 1)) (c.in_err-index.ensures.value ∙ c.self.invariant.each id)
    ∙ position-next (bytes_eq id) 0 (ids_kept c.self.inside.texts.items)
    ∙ ap (position_from (bytes_eq id) 1) c.self.view_is

pub prove-unreachable-requires : goal.prove-unreachable-requires
prove-unreachable-requires c =
    let id = c.args.id.now in
    let texts = c.self.inside.texts.items in
    let within = position_from-at (bytes_eq id) 0 (ids_kept texts) [] c.in_ok-index.index.now
    (sym (c.in_ok-index.ensures.value ∙ c.self.invariant.each id)) in
    let count : c.len.result ≡ length (ids_kept texts) = grind (arith, common_steps, length-map) in
    absurd (omega (arith, within.1, count, c.if-prove.true))

pub returns-clause-value : goal.returns-clause-value
returns-clause-value c =
    let id = c.args.id.now in
    ap (option_map (λ i. i + 1)) (c.in_ok-index.ensures.value ∙ c.self.invariant.each id)
    ∙ position-next (bytes_eq id) 0 (ids_kept c.self.inside.texts.items)
    ∙ ap (position_from (bytes_eq id) 1) c.self.view_is
