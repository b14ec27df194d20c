use Rattle.std.proofs.Common.{◌≤◌, ◌<◌, ◌∙◌, append_assoc, le-leb, arith}
use Rattle.std.proofs.lemmas.Bool.{lt-leb}
use Rattle.std.proofs.lemmas.Result.{IfOk-weaker}
use Rattle.pb_explain.specs.ShownGroup.{missing_told, need_of, over_told, share_of}
use Rattle.pb_explain.proofs.shown_group.difference_line.Goals as goal

pub returns-then-need-share : goal.returns-then-need-share
unfolding over_told
returns-then-need-share c =
    let enough : need_of c.args.election.now c.args.group.now ≤ share_of c.args.election.now c.args.group.now =
    rw (c.need_of-need.ensures.value, c.share_of-share.ensures.value) at c.if-need-share.true in
    IfOk-weaker c.format.result _ _ (λ line e. e ∙ simp (c.parts_per_unit.ensures, c.need_of-need.ensures.value, c.share_of-share.ensures.value, le-leb _ _ enough, append_assoc)) c.format.ensures.ok

pub returns : goal.returns
unfolding missing_told
returns c =
    let more : share_of c.args.election.now c.args.group.now < need_of c.args.election.now c.args.group.now =
    omega (arith, c.if-need-share.false, c.need_of-need.ensures.value, c.share_of-share.ensures.value) in
    let less = lt-leb _ _ more in
    IfOk-weaker c.format-2.result _ _ (λ line e. e ∙ simp (c.parts_per_unit-2.ensures, c.need_of-need.ensures.value, c.share_of-share.ensures.value, less, append_assoc)) c.format-2.ensures.ok
