use Rattle.std.proofs.Common.{◌≡◌, ◌∙◌, ◌∷◌, ◌++◌, [], ap}
use Rattle.pb_election.specs.Inside.Ids.{ids_kept}
use Rattle.pb_election.proofs.IdLemmas.{insert-new}
use Rattle.pb_election.proofs.ids.Ids.add.Goals as goal

pub returns-in_ok-insert-in-None-clause-added : goal.returns-in_ok-insert-in-None-clause-added
returns-in_ok-insert-in-None-clause-added c =
    let id = c.args.id.now in
    let keys = c.self.inside.set.keys in
    let copied = c.in_ok-key-in-None.ensures.ok in
    let kept : ids_kept keys ≡ c.args.self.now = rw c.in-None.is at c.self.view_is ∙ c.prepare.ensures in
    rw c.in-None.is
    (ap ids_kept c.in_ok-insert-in-None.ensures.keys
    ∙ insert-new keys c.in_ok-key-in-None.key (rw (copied, kept) c.requires)
    ∙ ap (λ last. ids_kept keys ++ last ∷ []) copied ∙ ap (λ ids. ids ++ id ∷ []) kept)
