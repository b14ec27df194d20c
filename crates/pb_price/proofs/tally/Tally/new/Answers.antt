use Rattle.std.proofs.Common.{refl, ◌∙◌, ap, replicate}
use Rattle.pb_price.proofs.Ballots.{nothing}
use Rattle.pb_price.proofs.Starting.{start}
use Rattle.pb_price.proofs.tally.Tally.new.Goals as goal

pub returns : goal.returns
returns c =
    let items = c.in_ok-vec.ensures.items_if_clones_equal (λ y same. same) in (
      start c.args.election.now _ c.projects.ensures.sound c.requires
          (items ∙ ap (λ n. replicate n nothing) c.projects.ensures.value) refl refl refl refl,
      refl,
    )
