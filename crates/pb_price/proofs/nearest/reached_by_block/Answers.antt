use Rattle.std.proofs.Common.{◌≡◌, ◌+◌, length, subst, sym, arith}
use Rattle.std.proofs.lemmas.List.{with_items_is}
use Rattle.pb_price.specs.Inside.Reached.{AreReached}
use Rattle.pb_price.proofs.Reached.{got-as, reached-next, reached-past, word-as}
use Rattle.pb_price.proofs.nearest.reached_by_block.Goals as goal
use Rattle.pb_price.proofs.nearest.reached_by_block.Goals.{then-word-ne0, else-word-ne0}

pub loop-k-preserved : goal.loop-k-preserved
loop-k-preserved c =
    let word = word-as _ _ c.args.low c.word_of-word.result c.ballot-ballot.ensures.value c.word_of-word.ensures in
    elim c.if-word-ne0.branch [
      | then-word-ne0 w ↦
          (let long : length w.add_word.new.words ≡ c.loop-k.words.len =
          omega (arith, w.add_word.ensures.as_many, w.deref_mut.ensures.len) in
          subst (λ v. AreReached (c.loop-k.k + 1) c.args.election.now c.args.low v.items) (sym w.words-is)
          (subst (AreReached (c.loop-k.k + 1) c.args.election.now c.args.low)
          (sym (with_items_is c.loop-k.words w.add_word.new.words long))
          (reached-next c.args.election.now c.args.low c.loop-k.k c.word_of-word.result c.loop-k.words.items
          w.add_word.new.words c.loop-k.invariant word
          (got-as _ _ _ _ _ _ w.deref_mut.ensures.value c.ballot-ballot.ensures.value w.add_word.ensures))))
      | else-word-ne0 w ↦
          subst (λ v. AreReached (c.loop-k.k + 1) c.args.election.now c.args.low v.items) (sym w.words-is)
          (reached-past c.args.election.now c.args.low c.loop-k.k c.word_of-word.result c.loop-k.words.items
          c.loop-k.invariant word w.if-word-ne0.false)
    ]
