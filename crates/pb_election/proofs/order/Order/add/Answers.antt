use Rattle.std.proofs.Common.{◌≡◌, ◌∙◌, ◌∷◌, ◌++◌, [], ap, arith, length}
use Rattle.std.proofs.lemmas.Grind.{common_steps}
use Rattle.std.proofs.lemmas.List.{length-map, map-append}
use Rattle.std.specs.Prelude.{string_bytes}
use Rattle.pb_election.specs.Inside.Ids.{ids_kept}
use Rattle.pb_election.proofs.IdLemmas.{indexed-added}
use Rattle.pb_election.proofs.order.Order.add.Goals as goal

pub invariant_of-self-2 : goal.invariant_of-self-2
invariant_of-self-2 c =
    let id = c.args.id.now in
    let texts = c.self.inside.texts.items in
    let text = c.in_ok-text.text in
    let kept : ids_kept c.push_reserved.new.self.items ≡ ids_kept texts ++ id ∷ [] =
    ap ids_kept (c.push_reserved.ensures.items ∙ ap (λ before. before ++ text ∷ []) c.reserve.ensures.items)
    ∙ map-append (λ k. string_bytes k) texts (text ∷ [])
    ∙ ap (λ last. ids_kept texts ++ last ∷ []) c.in_ok-text.ensures.ok in
    let count : c.len.result ≡ length (ids_kept texts) = grind (arith, common_steps, length-map) in
    rw kept
    (indexed-added c.self.inside.indices c.insert.new.self (ids_kept texts) c.in_ok-key.key id c.self.invariant
    c.in_ok-key.ensures.ok (rw c.self.view_is c.requires) (rw count at c.in_ok-insert.ensures.updates))
